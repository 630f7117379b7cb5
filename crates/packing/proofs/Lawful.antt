-- A map's tree is of what can be written: its names, lengths and annotations are within the limits. And in bytes it is no longer than the part.
-- Assumes nothing.
use Prim.Native.Nat.{ℕ, zero, suc, ◌+◌, ◌-◌, ◌/◌, ◌≤◌}
use native.Mathlib.Omega.{arith}
use mathlib.Core.Path.{◌≡◌, refl, ◌∙◌, sym, ap, subst}
use mathlib.Core.Bool.{true, false, true≢false}
use mathlib.Core.List.{List, []}
use lib.ListN.{length, length-append}
use Rattle.numbers.specs.Outcome.{Outcome, gives}
use Rattle.numbers.specs.Bytes.{part}
use Rattle.numbers.specs.Format.{VarBytes, last, more}
use Rattle.numbers.proofs.Outcomes.{by_test}
use Rattle.numbers.proofs.Parts.{part_length}
use Rattle.framing.specs.Spans.{Spans}
use Rattle.framing.specs.Format.{ValueBytes, plain, annotated}
use Rattle.framing.specs.Meaning.{Within}
use Rattle.stepping.specs.Items.{Item, Pad}
use Rattle.stepping.specs.Answers.{step_of}
use Rattle.stepping.specs.Format.{NameBytes, in_stream, in_sequence, in_fields, ItemAt, marker-at, value_in_stream, value_in_sequence, field-at}
use Rattle.stepping.specs.Meaning.{ItemWithin, Skips, arrived, passed, Stands, the_end, the_item, refused_there, no_part, no_limit}
use Rattle.stepping.specs.Runs.{cursor}
use Rattle.stepping.specs.declared.cursor.Rules.{Rules}
use Rattle.stepping.specs.declared.cursor.Rules.TheVariants.{Stream, Sequence, Fields}
use Rattle.stepping.proofs.Soundness.{steps-sound}
use Rattle.values.specs.Scalars.{is_container, body_rules}
use Rattle.packing.specs.Tree.{Head, Tree, nothing, mark, leaf, branch, kept_byte, written, bytes_of}
use Rattle.packing.specs.Packed.{head_of, node_of, tree_on, tree_in}
use Rattle.packing.specs.Private.Sizes.{header_size, wrap_size, value_size}
use Rattle.packing.proofs.Sizes.{header_some, wrap_least, written_length}
use Rattle.packing.proofs.Values.{Framed, Repacked, repacked}
use Rattle.packing.proofs.Back.{holds, rules_by, kept_kin, kin_holds, kin_rules}

-- a name by the rules of a part: a field ID of nine bytes at most, or nothing
pub data Named : Rules → List ℕ → Type 0 where
  in_stream_none : Named Stream []
  in_sequence_none : Named Sequence []
  by_id : {name : List ℕ} → VarBytes name → length name ≤ 9 → Named Fields name

pub data Lawful (limit : ℕ) : Rules → Tree → Type 0 where
  no_more : {rules : Rules} → Lawful limit rules nothing
  marked : {rest : Tree} → Lawful limit Stream rest → Lawful limit Stream (mark 1 0 rest)
  scalar : {rules : Rules} {h : Head} {body : List ℕ} {rest : Tree} → Named rules h.name → Framed limit (length h.annotations) h.byte (length body)
      → holds h.byte ≡ false → Lawful limit rules rest → Lawful limit rules (leaf h body rest)
  holding : {rules : Rules} {h : Head} {inside rest : Tree} → Named rules h.name → Framed limit (length h.annotations) h.byte (length (bytes_of inside))
      → holds h.byte ≡ true → Lawful limit (rules_by h.byte) inside → Lawful limit rules rest → Lawful limit rules (branch h inside rest)

-- ---- sizes of what is written

value_least : (i m byte n : ℕ) → i + 1 + n ≤ value_size i m byte n
unfolding value_size
value_least i m byte n = omega (arith, wrap_least m (header_size byte n + n), header_some byte n)

pub written_least : (h : Head) (body : List ℕ) → length h.name + 1 + length body ≤ length (written h body)
written_least h body =
    omega (arith, written_length h body, value_least (length h.name) (length h.annotations) h.byte (length body))

pub leaf_length : (h : Head) (body : List ℕ) (rest : Tree) → length (bytes_of (leaf h body rest)) ≡ length (written h body) + length (bytes_of rest)
unfolding bytes_of
leaf_length h body rest = length-append (written h body) (bytes_of rest)

pub branch_length : (h : Head) (inside rest : Tree) → length (bytes_of (branch h inside rest)) ≡ length (written h (bytes_of inside)) + length (bytes_of rest)
unfolding bytes_of
branch_length h inside rest = length-append (written h (bytes_of inside)) (bytes_of rest)

pub mark_length : (x y : ℕ) (rest : Tree) → length (bytes_of (mark x y rest)) ≡ 4 + length (bytes_of rest)
unfolding bytes_of
mark_length x y rest = omega arith

pub none_length : length (bytes_of nothing) ≡ 0
unfolding bytes_of
none_length = refl

-- no struct has one byte in it
named_some : {name : List ℕ} → Named Fields name → 1 ≤ length name
named_some (by_id (last h) l) = omega arith
named_some (by_id (more h r) l) = omega arith

pub not_one : {limit : ℕ} {t : Tree} → Lawful limit Fields t → length (bytes_of t) ≡ 1 → ⊥
not_one no_more e = absurd (omega (arith, none_length))
not_one (scalar {h = h} {body = body} {rest = rest} n f c r) e =
    absurd (omega (arith, named_some n, leaf_length h body rest, written_least h body))
not_one (holding {h = h} {inside = inside} {rest = rest} n f c i r) e =
    absurd (omega (arith, named_some n, branch_length h inside rest, written_least h (bytes_of inside)))

-- ---- what a step answers

pub record Packs (limit : ℕ) (rules : Rules) (hi at : ℕ) (t : Tree) : Type 0 where
  pub lawful : Lawful limit rules t
  pub short : length (bytes_of t) ≤ hi - at

no_packs : {limit : ℕ} {rules : Rules} {hi at : ℕ} → Packs limit rules hi at nothing
no_packs = record { lawful = no_more; short = omega (arith, none_length) }

-- pads lead on
name_on : {s : List ℕ} {hi a n : ℕ} {rules : Rules} → NameBytes s hi rules a n → a ≤ n
name_on in_stream = omega arith
name_on in_sequence = omega arith
name_on (in_fields id) = omega (arith, id.begins)

pub skips_on : {rules : Rules} {s : List ℕ} {hi a z : ℕ} {ps : List Pad} → Skips rules s hi a ps z → a ≤ z
skips_on arrived = omega arith
skips_on (passed t w r) = omega (arith, name_on t.name, t.bytes.low, t.bytes.order, skips_on r)

pub value_ends : {s : List ℕ} {at hi : ℕ} {v : Spans} → ValueBytes s at hi v → (v.end ≤ hi) × (hi ≤ length s)
value_ends (plain t) = (t.fits, t.within)
value_ends (annotated w) = (omega (arith, w.ends, w.value.fits), w.value.within)

pub is_holding : (v : Spans) → is_container v ≡ holds v.byte
unfolding is_container holds
is_holding v = refl

-- what a value's size adds up to
adds : (i x rest at z from end hi : ℕ) → i ≡ from - z → x ≤ end - from → rest ≤ hi - end → at ≤ z → z ≤ from → from ≤ end → end ≤ hi → i + x + rest ≤ hi - at
adds i x rest at z from end hi p q r a b c d = omega arith

module _ (limit : ℕ) (s : List ℕ) (rules : Rules) (at hi : ℕ) (P : Rules → ℕ → ℕ → Tree) (O : ℕ → Tree) (within : (r : Rules) (e b : ℕ) → Packs limit r e b (P r e b)) (onward : (e : ℕ) → Packs limit rules hi e (O e)) where
  -- a value whose name stands at z..from
  node_packs : {z from : ℕ} {v : Spans} (name : List ℕ) → Named rules name → length name ≡ from - z → at ≤ z → z ≤ from → (b : ValueBytes s from hi v) → Within limit b → Packs limit rules hi at (node_of s name v (P (body_rules v) v.end v.body) (O v.end))
  unfolding node_of value_size
  node_packs {z} {from} {v} name named size low order b w =
      by_test (Packs limit rules hi at) (is_container v)
      (λ c.
      let inside : Tree = P (body_rules v) v.end v.body in
      let n : ℕ = length (bytes_of inside) in
      let k : Packs limit (body_rules v) v.end v.body inside = within (body_rules v) v.end v.body in
      let r : Repacked limit from v n = repacked n k.short (λ e. absurd (true≢false (sym c ∙ e))) (λ _ t. not_one (subst (λ (x : Rules). Lawful limit x inside) (fields t) k.lawful)) b w in
      let h : Head = head_of s name v n in
      let l : length (written h (bytes_of inside)) ≡ value_size (length name) m (kept_byte v.byte n) n = lengthened (bytes_of inside) r in
      record {
        lawful = holding named (subst (λ (x : ℕ). Framed limit x (kept_byte v.byte n) n) (sym (many r)) r.framed) (kin_holds (kept_kin v.byte n) ∙ sym (is_holding v) ∙ c) (subst (λ (x : Rules). Lawful limit x inside) (sym (kin_rules (kept_kin v.byte n))) k.lawful) behind.lawful;
        short = subst (λ (x : ℕ). x ≤ hi - at) (sym (branch_length h inside (O v.end))) (summed n l r);
      })
      (λ c.
      let body : List ℕ = part s v.body v.end in
      let n : ℕ = length body in
      let e : n ≡ v.end - v.body = part_length s v.body v.end (omega (arith, ends.0, ends.1)) in
      let r : Repacked limit from v n = repacked n (omega arith) (λ _. e) (λ h. absurd (true≢false (sym h ∙ c))) b w in
      let h : Head = head_of s name v n in
      let l : length (written h body) ≡ value_size (length name) m (kept_byte v.byte n) n = lengthened body r in
      record {
        lawful = scalar named (subst (λ (x : ℕ). Framed limit x (kept_byte v.byte n) n) (sym (many r)) r.framed) (kin_holds (kept_kin v.byte n) ∙ sym (is_holding v) ∙ c) behind.lawful;
        short = subst (λ (x : ℕ). x ≤ hi - at) (sym (leaf_length h body (O v.end))) (summed n l r);
      })
    where
      m : ℕ
      m = v.descriptor - v.annotations

      ends : (v.end ≤ hi) × (hi ≤ length s)
      ends = value_ends b

      fields : v.byte / 16 ≡ 13 → body_rules v ≡ Fields
      fields t = rw t

      behind : Packs limit rules hi v.end (O v.end)
      behind = onward v.end

      many : {n : ℕ} → Repacked limit from v n → length (part s v.annotations v.descriptor) ≡ m
      many r = part_length s v.annotations v.descriptor (omega (arith, r.bodied, r.ended, ends.0, ends.1))

      lengthened : (body : List ℕ) → Repacked limit from v (length body) → length (written (head_of s name v (length body)) body) ≡ value_size (length name) m (kept_byte v.byte (length body)) (length body)
      lengthened body r =
          written_length (head_of s name v (length body)) body
          ∙ ap (λ (x : ℕ). value_size (length name) x (kept_byte v.byte (length body)) (length body)) (many r)

      sized_is : (n : ℕ) → value_size (length name) m (kept_byte v.byte n) n ≡ length name + wrap_size m (header_size (kept_byte v.byte n) n + n)
      sized_is n = refl

      summed : (n : ℕ) {w : ℕ} → w ≡ value_size (length name) m (kept_byte v.byte n) n → Repacked limit from v n → w + length (bytes_of (O v.end)) ≤ hi - at
      summed n e r =
          let x : ℕ = wrap_size m (header_size (kept_byte v.byte n) n + n) in
          let q : value_size (length name) m (kept_byte v.byte n) n ≡ length name + x = sized_is n in
          let a = adds (length name) x (length (bytes_of (O v.end))) at z from v.end hi size r.size behind.short low order (omega (arith, r.near, r.order, r.bodied, r.ended)) ends.0 in
          omega (arith, a, q, e)

-- ---- the whole part

abbrev Within-all : ℕ → (Rules → ℕ → ℕ → Tree) → Type 0
Within-all limit P = (r : Rules) (e b : ℕ) → Packs limit r e b (P r e b)

abbrev Onward-all : ℕ → Rules → ℕ → (ℕ → Tree) → Type 0
Onward-all limit rules hi O = (e : ℕ) → Packs limit rules hi e (O e)

item_packs : (limit : ℕ) (s : List ℕ) (at hi : ℕ) (P : Rules → ℕ → ℕ → Tree) (O : ℕ → Tree) {rules : Rules} {z : ℕ} {x : Item} → Within-all limit P → Onward-all limit rules hi O → at ≤ z → (t : ItemAt s hi rules z x) → ItemWithin limit t → Packs limit rules hi at (tree_on s P O (gives x))
item_packs limit s at hi P O within onward low (marker-at {a} e0 major minor ea fits inside) w =
    let k : Packs limit Stream hi (a + 4) (O (a + 4)) = onward (a + 4) in
    record { lawful = marked k.lawful; short = omega (arith, mark_length 1 0 (O (a + 4)), k.short) }
item_packs limit s at hi P O within onward low (value_in_stream {a} {v} b) w =
    node_packs limit s Stream at hi P O within onward {z = a} {from = a} [] in_stream_none (omega arith) low (omega arith) b w
item_packs limit s at hi P O within onward low (value_in_sequence {a} {v} b) w =
    node_packs limit s Sequence at hi P O within onward {z = a} {from = a} [] in_sequence_none (omega arith) low (omega arith) b w
item_packs limit s at hi P O within onward low (field-at {a} {n} {v} id b) w =
    let size : length (part s a n) ≡ n - a = part_length s a n (omega (arith, id.ends, id.within)) in
    let name : Named Fields (part s a n) = by_id id.bytes (omega (arith, w.0)) in
    subst (λ (x : ℕ). Packs limit Fields hi at (node_of s (part s a x) v (P (body_rules v) v.end v.body) (O v.end))) (sym (starts b))
    (node_packs limit s Fields at hi P O within onward {z = a} {from = n} (part s a n) name size low (omega (arith, id.begins)) b w.1)
  where
    starts : {c : ℕ} → ValueBytes s c hi v → v.start ≡ c
    starts (plain t) = t.start
    starts (annotated w) = w.start

stands_packs : (limit : ℕ) (s : List ℕ) (at hi : ℕ) (P : Rules → ℕ → ℕ → Tree) (O : ℕ → Tree) {rules : Rules} {z : ℕ} {o : Outcome Item} → Within-all limit P → Onward-all limit rules hi O → at ≤ z → Stands limit rules s hi z o → Packs limit rules hi at (tree_on s P O o)
stands_packs limit s at hi P O within onward low (the_end e) = no_packs
stands_packs limit s at hi P O within onward low (the_item t w) = item_packs limit s at hi P O within onward low t w
stands_packs limit s at hi P O within onward low (refused_there a b c) = no_packs
stands_packs limit s at hi P O within onward low (no_part a) = no_packs
stands_packs limit s at hi P O within onward low (no_limit a) = no_packs

pub packs : (limit : ℕ) (s : List ℕ) (k : ℕ) (rules : Rules) (hi at : ℕ) → Packs limit rules hi at (tree_in limit k s rules hi at)
unfolding tree_in step_of
packs limit s zero rules hi at = no_packs
packs limit s (suc k) rules hi at =
    let f = steps-sound limit rules s (cursor at hi) in
    stands_packs limit s at hi (tree_in limit k s) (tree_in limit k s rules hi) (packs limit s k) (packs limit s k rules hi) (skips_on f.1) f.2
