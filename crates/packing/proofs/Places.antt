-- Where what a step answers lies, and that what is packed of it is no longer.
-- Assumes nothing.
use Prim.Native.Nat.{ℕ, ◌+◌, ◌-◌, ◌/◌, ◌≤◌, ◌<◌}
use native.Mathlib.Omega.{arith}
use mathlib.Core.Path.{◌≡◌, ◌∙◌, sym, ap, subst}
use mathlib.Core.Bool.{true, false}
use mathlib.Core.List.{List}
use lib.ListN.{length, length-append}
use Rattle.numbers.specs.Outcome.{Outcome, gives}
use Rattle.numbers.specs.Bytes.{part}
use Rattle.numbers.proofs.Outcomes.{by_test}
use Rattle.numbers.proofs.Parts.{part_length}
use Rattle.framing.specs.Spans.{Spans}
use Rattle.framing.specs.Format.{ValueBytes, plain, annotated}
use Rattle.framing.specs.Meaning.{Within}
use Rattle.stepping.specs.Items.{Item, finish, marker, value, field}
use Rattle.stepping.specs.Answers.{step_of, answer_at}
use Rattle.stepping.specs.Format.{ItemAt, marker-at, value_in_stream, value_in_sequence, field-at}
use Rattle.stepping.specs.Meaning.{ItemWithin, Stands, the_end, the_item, refused_there, no_part, no_limit}
use Rattle.stepping.specs.Runs.{cursor}
use Rattle.stepping.specs.declared.cursor.Rules.{Rules}
use Rattle.stepping.specs.declared.cursor.Rules.TheVariants.{Fields}
use Rattle.stepping.proofs.Soundness.{steps-sound}
use Rattle.values.specs.Scalars.{is_container, body_rules}
use Rattle.packing.specs.Tree.{kept_byte}
use Rattle.packing.specs.Packed.{head_of}
use Rattle.packing.specs.Private.Sizes.{header_size, wrap_size, value_size}
use Rattle.packing.specs.Private.Bytes.{tree_at, bytes_at, body_bytes, value_bytes}
use Rattle.packing.proofs.Sizes.{written_length}
use Rattle.packing.proofs.Values.{Repacked, repacked}
use Rattle.packing.proofs.Lawful.{Lawful, Packs, packs, skips_on, not_one, value_ends}

-- a value that a step hands out at `at` in the part that ends at hi, and that begins, with its field ID, at `from`: packed it is no longer than it is
pub record HandedOut (limit : ℕ) (s : List ℕ) (at hi from : ℕ) (v : Spans) : Type 0 where
  pub low : at ≤ from
  pub named : from ≤ v.start
  pub started : v.start ≤ v.annotations
  pub annotated : v.annotations ≤ v.descriptor
  pub bodied : v.descriptor < v.body
  pub ended : v.body ≤ v.end
  pub within : v.end ≤ hi
  pub in_map : v.end ≤ length s
  pub short : length (value_bytes limit s from v) ≤ v.end - from

-- ---- sizes

-- a part is no longer once it is packed
pub part_packs : (limit : ℕ) (s : List ℕ) (rules : Rules) (hi at : ℕ) → Packs limit rules hi at (tree_at limit s rules hi at)
unfolding tree_at
part_packs limit s rules hi at = packs limit s (hi - at) rules hi at

pub part_short : (limit : ℕ) (s : List ℕ) (rules : Rules) (hi at : ℕ) → length (bytes_at limit s rules hi at) ≤ hi - at
unfolding bytes_at
part_short limit s rules hi at = (part_packs limit s rules hi at).short

pub ruleset part_sizes = (part_short, length-append)

module _ (limit : ℕ) (s : List ℕ) (v : Spans) where
  -- a container's body and a scalar's
  pub held_body : is_container v ≡ true → body_bytes limit s v ≡ bytes_at limit s (body_rules v) v.end v.body
  unfolding body_bytes
  held_body c = rw c

  pub scalar_body : is_container v ≡ false → body_bytes limit s v ≡ part s v.body v.end
  unfolding body_bytes
  scalar_body c = rw c

module _ (limit : ℕ) (s : List ℕ) (v : Spans) (h : v.end ≤ length s) where
  pub scalar_size : is_container v ≡ false → length (body_bytes limit s v) ≡ v.end - v.body
  scalar_size c = ap length (scalar_body limit s v c) ∙ part_length s v.body v.end h

  body_short : length (body_bytes limit s v) ≤ v.end - v.body
  unfolding body_bytes
  body_short =
      by_test (λ (l : List ℕ). length l ≤ v.end - v.body) (is_container v) (λ c. part_short limit s (body_rules v) v.end v.body)
      (λ c. omega (arith, part_length s v.body v.end h))

  body_not_one : is_container v ≡ true → v.byte / 16 ≡ 13 → length (body_bytes limit s v) ≡ 1 → ⊥
  unfolding bytes_at
  body_not_one c t e =
      not_one (subst (λ (x : Rules). Lawful limit x (tree_at limit s (body_rules v) v.end v.body)) (fields t) (part_packs limit s (body_rules v) v.end v.body).lawful)
      (ap length (sym (held_body limit s v c)) ∙ e)
    where
      fields : v.byte / 16 ≡ 13 → body_rules v ≡ Fields
      fields t = rw t

  -- the size of a value by the numbers of its places
  pub value_sized : (from : ℕ) → v.start ≤ v.end → v.descriptor ≤ v.end → length (value_bytes limit s from v) ≡ value_size (v.start - from) (v.descriptor - v.annotations) (kept_byte v.byte (length (body_bytes limit s v))) (length (body_bytes limit s v))
  unfolding value_bytes
  value_sized from a b =
      let body : List ℕ = body_bytes limit s v in
      let n : ℕ = length body in
      written_length (head_of s (part s from v.start) v n) body
      ∙ ap (λ (x : ℕ). value_size x (length (part s v.annotations v.descriptor)) (kept_byte v.byte n) n) (part_length s from v.start (omega arith))
      ∙ ap (λ (x : ℕ). value_size (v.start - from) x (kept_byte v.byte n) n) (part_length s v.annotations v.descriptor (omega arith))

  pub handed_out : {at hi a from : ℕ} → (b : ValueBytes s a hi v) → Within limit b → at ≤ from → from ≤ a → HandedOut limit s at hi from v
  unfolding value_size
  handed_out {at} {hi} {a} {from} b w low named =
      let body : List ℕ = body_bytes limit s v in
      let n : ℕ = length body in
      let r : Repacked limit a v n = repacked n body_short scalar_size body_not_one b w in
      let e = value_ends b in
      let q = value_sized from (omega (arith, r.start, r.near, r.order, r.bodied, r.ended)) (omega (arith, r.bodied, r.ended)) in
      let x : ℕ = wrap_size (v.descriptor - v.annotations) (header_size (kept_byte v.byte n) n + n) in
      record {
        low = low;
        named = omega (arith, r.start);
        started = omega (arith, r.start, r.near);
        annotated = r.order;
        bodied = r.bodied;
        ended = r.ended;
        within = e.0;
        in_map = h;
        short = adds (length (value_bytes limit s from v)) v.start from x v.end a q r.size r.start named (omega (arith, r.near, r.order, r.bodied, r.ended));
      }
    where
      adds : (l start from x end a : ℕ) → l ≡ start - from + x → x ≤ end - a → start ≡ a → from ≤ a → a ≤ end → l ≤ end - from
      adds l start from x end a p q r c d = omega arith

-- ---- what a step answers

abbrev pub Lies : ℕ → List ℕ → ℕ → ℕ → Item → Type 0
Lies limit s at hi (finish p) = Unit {0}
Lies limit s at hi (marker a x y e) = (at + 4 ≤ e) × (e ≤ hi)
Lies limit s at hi (value v) = HandedOut limit s at hi v.start v
Lies limit s at hi (field id a v) = HandedOut limit s at hi a v

starts : {s : List ℕ} {a hi : ℕ} {v : Spans} → ValueBytes s a hi v → v.start ≡ a
starts (plain t) = t.start
starts (annotated w) = w.start

ends : {s : List ℕ} {a hi : ℕ} {v : Spans} → ValueBytes s a hi v → v.end ≤ length s
ends b = let e = value_ends b in omega (arith, e.0, e.1)

item_lies : (limit : ℕ) {s : List ℕ} {at hi z : ℕ} {rules : Rules} {x : Item} → at ≤ z → (t : ItemAt s hi rules z x) → ItemWithin limit t → Lies limit s at hi x
item_lies limit low (marker-at e0 major minor ea fits inside) w = (omega arith, fits)
item_lies limit {s} low (value_in_stream {a} {v} b) w = handed_out limit s v (ends b) b w (omega (arith, starts b)) (omega (arith, starts b))
item_lies limit {s} low (value_in_sequence {a} {v} b) w = handed_out limit s v (ends b) b w (omega (arith, starts b)) (omega (arith, starts b))
item_lies limit {s} low (field-at {a} {n} {v} id b) w = handed_out limit s v (ends b) b w.1 low (omega (arith, id.begins))

stands_lie : {limit : ℕ} {s : List ℕ} {at hi z : ℕ} {rules : Rules} {o : Outcome Item} → at ≤ z → Stands limit rules s hi z o → (x : Item) → o ≡ gives x → Lies limit s at hi x
stands_lie {limit} {s} {at} {hi} low (the_end q) x e = let r : finish hi ≡ x = cc in subst (Lies limit s at hi) r tt
stands_lie {limit} {s} {at} {hi} low (the_item {i = y} t w) x e = let r : y ≡ x = cc in subst (Lies limit s at hi) r (item_lies limit low t w)
stands_lie low (refused_there p q r) x e = absurd (let z : ◌≡◌ {A = ℕ} 0 1 = cc in omega arith)
stands_lie low (no_part q) x e = absurd (let z : ◌≡◌ {A = ℕ} 0 1 = cc in omega arith)
stands_lie low (no_limit q) x e = absurd (let z : ◌≡◌ {A = ℕ} 0 1 = cc in omega arith)

pub answer_lies : (limit : ℕ) (rules : Rules) (s : List ℕ) (at hi : ℕ) (x : Item) → answer_at limit rules s at hi ≡ gives x → Lies limit s at hi x
unfolding step_of
answer_lies limit rules s at hi x e =
    let f = steps-sound limit rules s (cursor at hi) in
    stands_lie (skips_on f.1) f.2 x e

pub marker_lies : (limit : ℕ) (rules : Rules) (s : List ℕ) (at hi a x y e : ℕ) → gives (marker a x y e) ≡ answer_at limit rules s at hi → (at + 4 ≤ e) × (e ≤ hi)
marker_lies limit rules s at hi a x y e h = answer_lies limit rules s at hi (marker a x y e) (sym h)

pub value_lies : (limit : ℕ) (rules : Rules) (s : List ℕ) (at hi : ℕ) (v : Spans) → gives (value v) ≡ answer_at limit rules s at hi → HandedOut limit s at hi v.start v
value_lies limit rules s at hi v h = answer_lies limit rules s at hi (value v) (sym h)

pub field_lies : (limit : ℕ) (rules : Rules) (s : List ℕ) (at hi id a : ℕ) (v : Spans) → gives (field id a v) ≡ answer_at limit rules s at hi → HandedOut limit s at hi a v
field_lies limit rules s at hi id a v h = answer_lies limit rules s at hi (field id a v) (sym h)
