-- A.5 accepts what is packed of an accepted map, with the same counts but no pads: the check goes alike over both, an item at a time.
-- Assumes nothing.
use Prim.Native.Nat.{ℕ, zero, suc, ◌+◌, ◌-◌, ◌/◌, ◌%◌, ◌≤◌, ◌<◌}
use native.Mathlib.Omega.{arith}
use mathlib.Core.Path.{◌≡◌, refl, ◌∙◌, sym, ap, subst}
use mathlib.Core.Bool.{Bool, true, false, true≢false}
use mathlib.Core.List.{List, []}
use lib.ListN.{length, get_or, set}
use lib.Seq.{set-set, set_comm, get_or-set_other}
use lib.Dec.{ltb, eqb}
use borrow.Author.Tests.{ne_eqb, eqb-true, eqb-false, ltb-true, ltb-false}
use Rattle.numbers.specs.Outcome.{Outcome, gives, refuses, pick, and_then}
use Rattle.numbers.specs.Bytes.{part}
use Rattle.numbers.proofs.Outcomes.{by_case, by_test, then_gives, refuse_gives}
use Rattle.numbers.proofs.Parts.{part_length, part_at}
use Rattle.framing.specs.Spans.{Spans}
use Rattle.framing.specs.Limits.{out_of_range}
use Rattle.framing.specs.Format.{ValueBytes, plain, annotated}
use Rattle.values.specs.Scalars.{is_container, body_rules, type_of, code_of, null_of, bool_of, positive_of, negative_of, float_of, symbol_of, string_of, typed_of, scalar_of}
use Rattle.checking.specs.Counts.{type_place, place_of, pads, none, counting}
use Rattle.walking.specs.Walk.{limits_out}
use Rattle.walking.proofs.Depths.{in_limit}
use Rattle.checking.specs.Reading.{Done, done, read_ids, read_body, read_content, content_next, read_item}
use Rattle.checking.specs.Moved.{SameBytes, Alike, both_give, both_refuse}
use Rattle.checking.proofs.Moving.{ids_alike, contents_alike}
use Rattle.numbers.specs.Format.{VarBytes, last, more, NumberAt}
use Rattle.framing.specs.Meaning.{Within}
use Rattle.stepping.specs.Items.{Item, finish}
use Rattle.stepping.specs.Answers.{stop, found, step_of}
use Rattle.stepping.specs.Format.{ItemAt, marker-at, value_in_stream, value_in_sequence, field-at}
use Rattle.stepping.specs.Meaning.{ItemWithin, arrived, Stands, the_end, the_item, refused_there, no_part, no_limit}
use Rattle.stepping.specs.Runs.{cursor}
use Rattle.stepping.specs.declared.cursor.Rules.{Rules}
use Rattle.stepping.specs.declared.cursor.Rules.TheVariants.{Stream, Sequence, Fields}
use Rattle.stepping.proofs.Completeness.{steps-complete}
use Rattle.stepping.proofs.Soundness.{steps-sound}
use Rattle.checking.specs.Check.{Parts, least_room, inside_of, value_check, on_answer, on_found, part_check, whole_check}
use Rattle.checking.proofs.Unrolled.{counting_none}
use Rattle.encoding.specs.Meaning.{StandsAt}
use Rattle.packing.specs.Tree.{Head, Tree, mark, leaf, branch, lengthless, kept_byte, bytes_of}
use Rattle.packing.specs.Packed.{head_of, node_of, tree_on, tree_in, tree_of, packed}
use Rattle.packing.proofs.Sizes.{low_lengthless, bare_kept}
use Rattle.packing.proofs.Values.{Framed}
use Rattle.packing.proofs.Back.{wire_byte, bare_wire, holds, Kin, kin_holds, kin_rules, wire_kin, kept_kin, Stood}
use Rattle.packing.proofs.Lawful.{Named, in_stream_none, in_sequence_none, by_id, Lawful, scalar, holding, is_holding, written_least, leaf_length, branch_length, mark_length, none_length, packs}
use Rattle.packing.specs.Theorems.{without_pads, PackedAccepted}
use Rattle.packing.proofs.Twice.{whole_stands}
use Rattle.packing.proofs.ReadBack.{Parts as WrittenParts, taken, marker_stands, body_stands}

-- ---- counts without pads

zeroed_pads : (n : ℕ) (c : List ℕ) → without_pads (counting pads n c) ≡ without_pads c
unfolding counting
zeroed_pads n c = set-set c pads (get_or c pads 0 + n) 0

zeroed_other : (place n : ℕ) (c : List ℕ) → 2 ≤ place → counting place n (without_pads c) ≡ without_pads (counting place n c)
unfolding counting
zeroed_other place n c h =
    ap (λ (x : ℕ). set (set c pads 0) place (x + n)) (get_or-set_other c pads place 0 0 (λ e. omega arith))
    ∙ set_comm c pads place 0 (get_or c place 0 + n) (λ e. omega arith)

zeroed_marker : (n : ℕ) (c : List ℕ) → counting 0 n (without_pads c) ≡ without_pads (counting 0 n c)
unfolding counting
zeroed_marker n c =
    ap (λ (x : ℕ). set (set c pads 0) 0 (x + n)) (get_or-set_other c pads 0 0 0 (λ e. omega arith))
    ∙ set_comm c pads 0 0 (get_or c 0 0 + n) (λ e. omega arith)

place_high : (type : ℕ) → 2 ≤ type_place type
unfolding type_place
place_high type = by_test (λ (x : ℕ). 2 ≤ x) (ltb type 3) (λ _. omega arith) (λ e. omega (arith, ltb-false type 3 e))

-- ---- what is read of a value

-- the same places, under another descriptor
abbrev under : ℕ → Spans → Spans
under byte v =
    record {
      byte = byte;
      start = v.start;
      annotations = v.annotations;
      descriptor = v.descriptor;
      body = v.body;
      end = v.end;
    }

-- a descriptor of the same type, null or not alike, and of a bool the same
typed_same : (s : List ℕ) (v : Spans) (byte t : ℕ) → (t ≡ 1 → ⊥) → typed_of s v t ≡ typed_of s (under byte v) t
unfolding typed_of bool_of positive_of negative_of float_of symbol_of string_of
typed_same s v byte t h = rw (ne_eqb t 1 h)

scalar_same : (s : List ℕ) (v : Spans) (byte : ℕ) → Kin v.byte byte → (byte / 16 ≡ 1 → v.byte ≡ byte) → scalar_of s v ≡ scalar_of s (under byte v)
unfolding scalar_of
scalar_same s v byte k b =
    by_case (eqb (byte / 16) 1)
    (λ e. ap (λ (x : ℕ). scalar_of s (under x v)) (b (eqb-true (byte / 16) 1 e)))
    (λ e. rw (k.null_too, k.type) (ap (λ (o : Outcome _). pick (eqb (byte % 16) 15) (null_of (under byte v)) o) (typed_same s v byte (byte / 16) (eqb-false (byte / 16) 1 e))))

-- the bytes of two parts that are equal
parts_same : (s t : List ℕ) (a b a' b' : ℕ) → a ≤ b → b ≤ length s → a' ≤ b' → b' ≤ length t → part s a b ≡ part t a' b' → SameBytes s t a b a' b'
parts_same s t a b a' b' h k h' k' e =
    let l : b - a ≡ b' - a' = sym (part_length s a b k) ∙ ap length e ∙ part_length t a' b' k' in
    record {
      order = h;
      within = k;
      end = omega arith;
      within' = k';
      same = λ i m. sym (part_at s a b i (omega arith)) ∙ ap (λ (x : List ℕ). get_or x i 0) e ∙ part_at t a' b' i (omega arith);
    }

alike_gives : {A B : Type 0} {o : Outcome A} {o' : Outcome B} {a : A} → Alike o o' → o ≡ gives a → (b : B) × (o' ≡ gives b)
alike_gives (both_give {b = b}) e = (b, refl)
alike_gives both_refuse e = absurd (let z : ◌≡◌ {A = ℕ} 0 1 = cc in omega arith)

one_done : (d : Done) → d ≡ done
one_done done = refl

alike_done : {A : Type 0} {o : Outcome A} {o' : Outcome Done} {a : A} → Alike o o' → o ≡ gives a → o' ≡ gives done
alike_done h e = let r = alike_gives h e in r.1 ∙ ap gives (one_done r.0)

-- a container is read as one, whatever is in it
held_type : (v : Spans) → is_container v ≡ true → (code_of v ≡ 15 → ⊥) × (10 < type_of v)
unfolding is_container
held_type v =
    by_test (λ (b : Bool). b ≡ true → (code_of v ≡ 15 → ⊥) × (10 < type_of v)) (eqb (code_of v) 15) (λ _ e. absurd (true≢false (sym e)))
    (λ n e. (eqb-false (code_of v) 15 n, ltb-true 10 (type_of v) e))

held_content : (s : List ℕ) (v : Spans) → is_container v ≡ true → read_content s v ≡ gives done
unfolding read_content scalar_of typed_of
held_content s v c =
    let h = held_type v c in
    let t : 10 < type_of v = h.1 in
    rw (ne_eqb (code_of v) 15 h.0, ne_eqb (type_of v) 1 (omega arith), ne_eqb (type_of v) 2 (omega arith), ne_eqb (type_of v) 3 (omega arith), ne_eqb (type_of v) 4 (omega arith), ne_eqb (type_of v) 5 (omega arith), ne_eqb (type_of v) 6 (omega arith), ne_eqb (type_of v) 7 (omega arith), ne_eqb (type_of v) 8 (omega arith), ne_eqb (type_of v) 9 (omega arith), ne_eqb (type_of v) 10 (omega arith))

content_same : (s : List ℕ) (v : Spans) (byte : ℕ) → Kin v.byte byte → (byte / 16 ≡ 1 → v.byte ≡ byte) → read_content s v ≡ read_content s (under byte v)
unfolding read_content
content_same s v byte k b = ap (λ (o : Outcome _). and_then o (read_body s v.descriptor)) (scalar_same s v byte k b)

-- the places of a value in order
record InOrder (s : List ℕ) (v : Spans) : Type 0 where
  annotated : v.annotations ≤ v.descriptor
  bodied : v.descriptor < v.body
  ended : v.body ≤ v.end
  within : v.end ≤ length s

in_order_of : {s : List ℕ} {a hi : ℕ} {v : Spans} → ValueBytes s a hi v → InOrder s v
in_order_of (plain t) =
    record {
      annotated = omega (arith, t.annotations, t.descriptor);
      bodied = omega (arith, t.low, t.descriptor);
      ended = t.order;
      within = omega (arith, t.fits, t.within);
    }
in_order_of (annotated w) =
    record {
      annotated = omega (arith, w.some);
      bodied = omega (arith, w.value.low, w.body);
      ended = omega (arith, w.value.order, w.body, w.ends);
      within = omega (arith, w.value.fits, w.value.within, w.ends);
    }

-- a value that is read in one map is read in the other, with the same annotations and, where it is a scalar, the same body
module _ (s t : List ℕ) (v w : Spans) (o : InOrder s v) (o' : InOrder t w) (names : part s v.annotations v.descriptor ≡ part t w.annotations w.descriptor) (k : Kin w.byte v.byte) (b : v.byte / 16 ≡ 1 → w.byte ≡ v.byte) where
  read_too : (is_container w ≡ false → part s v.body v.end ≡ part t w.body w.end) → read_item s v ≡ gives done → read_item t w ≡ gives done
  unfolding read_item
  read_too bodies e =
      let r = then_gives (read_ids s v.annotations v.descriptor) (content_next s v) e in
      let ids : read_ids t w.annotations w.descriptor ≡ gives done = alike_done (ids_alike s t v.annotations v.descriptor w.annotations w.descriptor (parts_same s t v.annotations v.descriptor w.annotations w.descriptor o.annotated (omega (arith, o.bodied, o.ended, o.within)) o'.annotated (omega (arith, o'.bodied, o'.ended, o'.within)) names)) r.1 in
      let content : read_content s v ≡ gives done = next r.0 r.2 in
      rw ids
      (by_case (is_container w) (λ c. held_content t w c) (λ c.
      content_same t w v.byte k b
      ∙ alike_done (contents_alike s t v (under v.byte w) refl (parts_same s t v.body v.end w.body w.end o.ended o.within o'.ended o'.within (bodies c))) content))
    where
      next : (d : Done) → content_next s v d ≡ gives done → read_content s v ≡ gives done
      next done e = e

-- ---- a step in the packed map

module _ (limit : ℕ) (p : List ℕ) (ranged : out_of_range limit ≡ false) where
  met_found : {rules : Rules} {at hi : ℕ} {x : Item} (t : ItemAt p hi rules at x) → ItemWithin limit t → found limit rules p (cursor at hi) ≡ stop (gives x)
  met_found {rules} {at} {hi} {x} t w = (steps-complete limit rules p (cursor at hi) [] at arrived).item x t w ∙ rw ranged

  over_found : (rules : Rules) (at hi : ℕ) → at ≡ hi → hi ≤ length p → found limit rules p (cursor at hi) ≡ stop (gives (finish hi))
  over_found rules at hi e h = (steps-complete limit rules p (cursor at hi) [] at arrived).end e h ∙ rw ranged

  over_check : (k : ℕ) (rules : Rules) (room at hi : ℕ) (c : List ℕ) → at ≡ hi → hi ≤ length p → part_check limit k p rules room hi at c ≡ gives c
  unfolding part_check
  over_check zero rules room at hi c e h = refl
  over_check (suc k) rules room at hi c e h =
      ap (on_found p (part_check limit k p) (part_check limit k p rules room hi) room c) (over_found rules at hi e h) ∙ ap gives (counting_none pads c)

  value_found : {rules : Rules} {name : List ℕ} {at hi : ℕ} {annotations : List ℕ} {byte : ℕ} {body : List ℕ} (P : Parts) (O : ℕ → List ℕ → Outcome (List ℕ)) (room : ℕ) (c : List ℕ) → Named rules name → StandsAt p at hi name → (x : Stood limit p (at + length name) hi annotations byte body) → on_found p P O room c (found limit rules p (cursor at hi)) ≡ and_then (value_check p P room x.v c) (O x.v.end)
  value_found {at = at} {hi} P O room c in_stream_none n x =
      let e : at + 0 ≡ at = omega arith in
      let b = subst (λ (a : ℕ). (b : ValueBytes p a hi x.v) × Within limit b) e (x.bytes, x.within) in
      ap (on_found p P O room c) (met_found (value_in_stream b.0) b.1) ∙ ap (λ (z : List ℕ). and_then (value_check p P room x.v z) (O x.v.end)) (counting_none pads c)
  value_found {at = at} {hi} P O room c in_sequence_none n x =
      let e : at + 0 ≡ at = omega arith in
      let b = subst (λ (a : ℕ). (b : ValueBytes p a hi x.v) × Within limit b) e (x.bytes, x.within) in
      ap (on_found p P O room c) (met_found (value_in_sequence b.0) b.1) ∙ ap (λ (z : List ℕ). and_then (value_check p P room x.v z) (O x.v.end)) (counting_none pads c)
  value_found {name = name} {at} {hi} P O room c (by_id bytes few) n x =
      let id : NumberAt p at hi (at + length name) = record { bytes = subst VarBytes (sym n.same) bytes; begins = omega (arith, some bytes); ends = n.fits; within = n.within } in
      ap (on_found p P O room c) (met_found (field-at id x.bytes) (omega arith, x.within)) ∙ ap (λ (z : List ℕ). and_then (value_check p P room x.v z) (O x.v.end)) (counting_none pads c)
    where
      some : {bs : List ℕ} → VarBytes bs → 1 ≤ length bs
      some (last h) = omega arith
      some (more h r) = omega arith

-- ---- what is in a value

module _ (P : Parts) (room : ℕ) (v : Spans) (c : List ℕ) where
  scalar_inside : is_container v ≡ false → inside_of P room v c done ≡ gives (counting (place_of v) 1 c)
  scalar_inside e = rw e

  pub held_inside : is_container v ≡ true → ltb room least_room ≡ false → inside_of P room v c done ≡ P (body_rules v) (room - 1) v.end v.body (counting (place_of v) 1 c)
  held_inside e l = rw (e, l)

  pub held_room : {d : List ℕ} → is_container v ≡ true → inside_of P room v c done ≡ gives d → ltb room least_room ≡ false
  held_room {d} e q = by_case (ltb room least_room) (λ l. absurd (no (ltb room least_room) l (rw e at q))) (λ l. l)
    where
      no : (b : Bool) → b ≡ true → pick b (refuses 37 v.descriptor) (P (body_rules v) (room - 1) v.end v.body (counting (place_of v) 1 c)) ≡ gives d → ⊥
      no true l q = let z : ◌≡◌ {A = ℕ} 0 1 = cc in omega arith
      no false l q = true≢false (sym l)

-- a value's check, taken apart
pub record Checks (s : List ℕ) (P : Parts) (O : List ℕ → Outcome (List ℕ)) (room : ℕ) (v : Spans) (c d : List ℕ) : Type 0 where
  pub behind : List ℕ
  pub read : read_item s v ≡ gives done
  pub inside : inside_of P room v c done ≡ gives behind
  pub onward : O behind ≡ gives d

pub checks : (s : List ℕ) (P : Parts) (O : List ℕ → Outcome (List ℕ)) (room : ℕ) (v : Spans) (c d : List ℕ) → and_then (value_check s P room v c) O ≡ gives d → Checks s P O room v c d
unfolding value_check
checks s P O room v c d e =
    let q = then_gives (value_check s P room v c) O e in
    let r = then_gives (read_item s v) (inside_of P room v c) q.1 in
    let u : r.0 ≡ done = one_done r.0 in
    record {
      behind = q.0;
      read = r.1 ∙ ap gives u;
      inside = ap (inside_of P room v c) (sym u) ∙ r.2;
      onward = q.2;
    }

kin_then : {a b c : ℕ} → Kin a b → Kin b c → Kin a c
kin_then p q = record { type = p.type ∙ q.type; null_too = p.null_too ∙ q.null_too }

-- a bool's descriptor stays
bool_stays : (byte n : ℕ) → byte / 16 ≡ 1 → wire_byte (kept_byte byte n) n ≡ byte
bool_stays byte n h =
    let e : lengthless byte ≡ true = low_lengthless byte (omega arith) in
    ap (λ (x : ℕ). wire_byte x n) (bare_kept byte n e) ∙ bare_wire byte n e

-- what is written of a value, by the tree
pub record NodeParts (limit : ℕ) (rules : Rules) (h : Head) (body : List ℕ) : Type 0 where
  pub named : Named rules h.name
  pub framed : Framed limit (length h.annotations) h.byte (length body)

of_leaf : {limit : ℕ} {rules : Rules} {h : Head} {body : List ℕ} {rest : Tree} → Lawful limit rules (leaf h body rest) → NodeParts limit rules h body
of_leaf (scalar n f c r) = record { named = n; framed = f }

of_branch : {limit : ℕ} {rules : Rules} {h : Head} {inside rest : Tree} → Lawful limit rules (branch h inside rest) → NodeParts limit rules h (bytes_of inside)
of_branch (holding n f c i r) = record { named = n; framed = f }

as_leaf : (s name : List ℕ) (v : Spans) (inside rest : Tree) → is_container v ≡ false → node_of s name v inside rest ≡ leaf (head_of s name v (length (part s v.body v.end))) (part s v.body v.end) rest
unfolding node_of
as_leaf s name v inside rest c = rw c

as_branch : (s name : List ℕ) (v : Spans) (inside rest : Tree) → is_container v ≡ true → node_of s name v inside rest ≡ branch (head_of s name v (length (bytes_of inside))) inside rest
unfolding node_of
as_branch s name v inside rest c = rw c

-- ---- the two checks, an item at a time

-- t's bytes are all of the part at..hi of p
pub record Filled (p : List ℕ) (at hi : ℕ) (t : Tree) : Type 0 where
  pub stands : StandsAt p at hi (bytes_of t)
  pub all : hi ≡ at + length (bytes_of t)

module _ (limit : ℕ) (s p : List ℕ) (ranged : out_of_range limit ≡ false) (k : ℕ) where
  abbrev Alike-all : Type 0
  Alike-all =
      (rules : Rules) (room hi at hi' at' k' : ℕ) (c d : List ℕ) → hi ≤ length s → Filled p at' hi' (tree_in limit k s rules hi at) → length (bytes_of (tree_in limit k s rules hi at)) ≤ k'
      → part_check limit k s rules room hi at c ≡ gives d → part_check limit k' p rules room hi' at' (without_pads c) ≡ gives (without_pads d)

  module _ (ih : Alike-all) (rules : Rules) (room hi : ℕ) (fits : hi ≤ length s) (hi' at' k' : ℕ) where
    -- what both check of a value: its head
    head_read : (name : List ℕ) (v : Spans) (o : InOrder s v) (body : List ℕ) (x : Stood limit p (at' + length name) hi' (part s v.annotations v.descriptor) (kept_byte v.byte (length body)) body) → NodeParts limit rules (head_of s name v (length body)) body → (is_container x.v ≡ false → part s v.body v.end ≡ body) → read_item s v ≡ gives done → (read_item p x.v ≡ gives done) × Kin x.v.byte v.byte
    head_read name v o body x n bodies e =
        let h : ℕ = kept_byte v.byte (length body) in
        let kin : Kin x.v.byte v.byte = subst (λ (y : ℕ). Kin y v.byte) (sym x.byte_is) (kin_then (wire_kin h (length body) n.framed.shape) (kept_kin v.byte (length body))) in
        (read_too s p v x.v o (in_order_of x.bytes) (sym x.annotations_are) kin (λ t. x.byte_is ∙ bool_stays v.byte (length body) t) (λ c. bodies c ∙ sym x.body_is) e, kin)

    place_same : {a b : ℕ} → Kin a b → type_place (a / 16) ≡ type_place (b / 16)
    place_same kin = ap type_place kin.type

    leaf_alike : (name : List ℕ) (v : Spans) (c d : List ℕ) (o : InOrder s v) → is_container v ≡ false → (rest : Tree) → tree_in limit k s rules hi v.end ≡ rest
        → NodeParts limit rules (head_of s name v (length (part s v.body v.end))) (part s v.body v.end) → Filled p at' hi' (leaf (head_of s name v (length (part s v.body v.end))) (part s v.body v.end) rest)
        → length (bytes_of (leaf (head_of s name v (length (part s v.body v.end))) (part s v.body v.end) rest)) ≤ suc k'
        → Checks s (part_check limit k s) (part_check limit k s rules room hi v.end) room v c d
        → on_found p (part_check limit k' p) (part_check limit k' p rules room hi') room (without_pads c) (found limit rules p (cursor at' hi')) ≡ gives (without_pads d)
    unfolding value_check bytes_of
    leaf_alike name v c d o y0 rest re n f l q =
        let body : List ℕ = part s v.body v.end in
        let h : Head = head_of s name v (length body) in
        let w : WrittenParts limit p ranged at' hi' h body (bytes_of rest) = taken limit p ranged at' hi' h body (bytes_of rest) n.framed f.stands in
        let x = w.value in
        let r = head_read name v o body x n (λ _. refl) q.read in
        let h0 : is_container x.v ≡ false = is_holding x.v ∙ kin_holds r.1 ∙ sym (is_holding v) ∙ y0 in
        let size = leaf_length h body rest in
        let c' : List ℕ = counting (place_of v) 1 c in
        let behind : q.behind ≡ c' = given (sym q.inside ∙ scalar_inside (part_check limit k s) room v c y0) in
        let counted : counting (place_of x.v) 1 (without_pads c) ≡ without_pads c' = ap (λ (y : ℕ). counting y 1 (without_pads c)) (place_same r.1) ∙ zeroed_other (place_of v) 1 c (place_high (type_of v)) in
        value_found limit p ranged (part_check limit k' p) (part_check limit k' p rules room hi') room (without_pads c) n.named w.name x
        ∙ ap (λ (y : Outcome Done). and_then (and_then y (inside_of (part_check limit k' p) room x.v (without_pads c))) (part_check limit k' p rules room hi' x.v.end)) r.0
        ∙ ap (λ (y : Outcome (List ℕ)). and_then y (part_check limit k' p rules room hi' x.v.end)) (scalar_inside (part_check limit k' p) room x.v (without_pads c) h0)
        ∙ ap (part_check limit k' p rules room hi' x.v.end) counted
        ∙ ih rules room hi v.end hi' x.v.end k' c' d fits
        (subst (Filled p x.v.end hi') (sym re) (record { stands = w.behind; all = omega (arith, f.all, size, w.size) }))
        (subst (λ (y : Tree). length (bytes_of y) ≤ k') (sym re) (omega (arith, size, written_least h body)))
        (ap (part_check limit k s rules room hi v.end) (sym behind) ∙ q.onward)
      where
        given : {a b : List ℕ} → gives a ≡ gives b → a ≡ b
        given e = cc

    branch_alike : (name : List ℕ) (v : Spans) (c d : List ℕ) (o : InOrder s v) → is_container v ≡ true → (inside rest : Tree) → tree_in limit k s (body_rules v) v.end v.body ≡ inside → tree_in limit k s rules hi v.end ≡ rest
        → NodeParts limit rules (head_of s name v (length (bytes_of inside))) (bytes_of inside) → Filled p at' hi' (branch (head_of s name v (length (bytes_of inside))) inside rest)
        → length (bytes_of (branch (head_of s name v (length (bytes_of inside))) inside rest)) ≤ suc k'
        → Checks s (part_check limit k s) (part_check limit k s rules room hi v.end) room v c d
        → on_found p (part_check limit k' p) (part_check limit k' p rules room hi') room (without_pads c) (found limit rules p (cursor at' hi')) ≡ gives (without_pads d)
    unfolding value_check bytes_of
    branch_alike name v c d o y1 inside rest ie re n f l q =
        let body : List ℕ = bytes_of inside in
        let h : Head = head_of s name v (length body) in
        let w : WrittenParts limit p ranged at' hi' h body (bytes_of rest) = taken limit p ranged at' hi' h body (bytes_of rest) n.framed f.stands in
        let x = w.value in
        let r = head_read name v o body x n (λ y0. absurd (true≢false (sym y1 ∙ is_holding v ∙ sym (kin_of x n) ∙ sym (is_holding x.v) ∙ y0))) q.read in
        let h1 : is_container x.v ≡ true = is_holding x.v ∙ kin_holds r.1 ∙ sym (is_holding v) ∙ y1 in
        let size = branch_length h inside rest in
        let P = part_check limit k s in
        let P' = part_check limit k' p in
        let room-left : ltb room least_room ≡ false = held_room P room v c y1 q.inside in
        let in-it : P (body_rules v) (room - 1) v.end v.body (counting (place_of v) 1 c) ≡ gives q.behind = sym (held_inside P room v c y1 room-left) ∙ q.inside in
        let counted : counting (place_of x.v) 1 (without_pads c) ≡ without_pads (counting (place_of v) 1 c) = ap (λ (y : ℕ). counting y 1 (without_pads c)) (place_same r.1) ∙ zeroed_other (place_of v) 1 c (place_high (type_of v)) in
        let ends : x.v.end ≤ length p = (in_order_of x.bytes).within in
        let entered : P' (body_rules x.v) (room - 1) x.v.end x.v.body (counting (place_of x.v) 1 (without_pads c)) ≡ gives (without_pads q.behind) =
        ap (λ (y : Rules). P' y (room - 1) x.v.end x.v.body (counting (place_of x.v) 1 (without_pads c))) (kin_rules r.1)
        ∙ ap (P' (body_rules v) (room - 1) x.v.end x.v.body) counted
        ∙ ih (body_rules v) (room - 1) v.end v.body x.v.end x.v.body k' (counting (place_of v) 1 c) q.behind o.within
        (subst (Filled p x.v.body x.v.end) (sym ie) (record { stands = body_stands h body n.framed x ends; all = x.order }))
        (subst (λ (y : Tree). length (bytes_of y) ≤ k') (sym ie) (omega (arith, size, written_least h body)))
        in-it in
        value_found limit p ranged P' (P' rules room hi') room (without_pads c) n.named w.name x
        ∙ ap (λ (y : Outcome Done). and_then (and_then y (inside_of P' room x.v (without_pads c))) (P' rules room hi' x.v.end)) r.0
        ∙ ap (λ (y : Outcome (List ℕ)). and_then y (P' rules room hi' x.v.end)) (held_inside P' room x.v (without_pads c) h1 room-left ∙ entered)
        ∙ ih rules room hi v.end hi' x.v.end k' q.behind d fits
        (subst (Filled p x.v.end hi') (sym re) (record { stands = w.behind; all = omega (arith, f.all, size, w.size) }))
        (subst (λ (y : Tree). length (bytes_of y) ≤ k') (sym re) (omega (arith, size, written_least h body)))
        q.onward
      where
        kin_of : {a : ℕ} {ns bs : List ℕ} (x : Stood limit p a hi' ns (kept_byte v.byte (length bs)) bs) → NodeParts limit rules (head_of s name v (length bs)) bs → holds x.v.byte ≡ holds v.byte
        kin_of {bs = bs} x n = kin_holds (subst (λ (y : ℕ). Kin y v.byte) (sym x.byte_is) (kin_then (wire_kin (kept_byte v.byte (length bs)) (length bs) n.framed.shape) (kept_kin v.byte (length bs))))

    node_alike : (name : List ℕ) (v : Spans) (c d : List ℕ) (o : InOrder s v) → let t = node_of s name v (tree_in limit k s (body_rules v) v.end v.body) (tree_in limit k s rules hi v.end) in Lawful limit rules t → Filled p at' hi' t → length (bytes_of t) ≤ suc k'
        → and_then (value_check s (part_check limit k s) room v c) (part_check limit k s rules room hi v.end) ≡ gives d
        → on_found p (part_check limit k' p) (part_check limit k' p rules room hi') room (without_pads c) (found limit rules p (cursor at' hi')) ≡ gives (without_pads d)
    node_alike name v c d o lawful f l e =
        let inside : Tree = tree_in limit k s (body_rules v) v.end v.body in
        let rest : Tree = tree_in limit k s rules hi v.end in
        let q = checks s (part_check limit k s) (part_check limit k s rules room hi v.end) room v c d e in
        by_case (is_container v)
        (λ y1.
        let t = as_branch s name v inside rest y1 in
        branch_alike name v c d o y1 inside rest refl refl (of_branch (subst (Lawful limit rules) t lawful)) (subst (Filled p at' hi') t f) (subst (λ (y : Tree). length (bytes_of y) ≤ suc k') t l) q)
        (λ y0.
        let t = as_leaf s name v inside rest y0 in
        leaf_alike name v c d o y0 rest refl (of_leaf (subst (Lawful limit rules) t lawful)) (subst (Filled p at' hi') t f) (subst (λ (y : Tree). length (bytes_of y) ≤ suc k') t l) q)

-- ---- the whole part

node_some : (s name : List ℕ) (v : Spans) (inside rest : Tree) → 1 ≤ length (bytes_of (node_of s name v inside rest))
unfolding node_of
node_some s name v inside rest =
    let body : List ℕ = part s v.body v.end in
    by_test (λ (t : Tree). 1 ≤ length (bytes_of t)) (is_container v)
    (λ _. omega (arith, branch_length (head_of s name v (length (bytes_of inside))) inside rest, written_least (head_of s name v (length (bytes_of inside))) (bytes_of inside)))
    (λ _. omega (arith, leaf_length (head_of s name v (length body)) body rest, written_least (head_of s name v (length body)) body))

module _ (limit : ℕ) (s p : List ℕ) (ranged : out_of_range limit ≡ false) (k : ℕ) (ih : Alike-all limit s p ranged k) (room hi hi' at' : ℕ) (c d : List ℕ) (fits : hi ≤ length s) where
  abbrev tree-of : Rules → Item → Tree
  tree-of rules x = tree_on s (tree_in limit k s) (tree_in limit k s rules hi) (gives x)

  abbrev Goes : Rules → Outcome Item → Type 0
  Goes rules o = on_answer s (part_check limit k s) (part_check limit k s rules room hi) room c o ≡ gives d

  value_alike : (k' : ℕ) (rules : Rules) (name : List ℕ) (v : Spans) {a : ℕ} → ValueBytes s a hi v → let t = node_of s name v (tree_in limit k s (body_rules v) v.end v.body) (tree_in limit k s rules hi v.end) in Lawful limit rules t → Filled p at' hi' t → length (bytes_of t) ≤ k' → and_then (value_check s (part_check limit k s) room v c) (part_check limit k s rules room hi v.end) ≡ gives d → part_check limit k' p rules room hi' at' (without_pads c) ≡ gives (without_pads d)
  unfolding part_check
  value_alike zero rules name v b lawful f l e = absurd (omega (arith, node_some s name v (tree_in limit k s (body_rules v) v.end v.body) (tree_in limit k s rules hi v.end)))
  value_alike (suc k') rules name v b lawful f l e = node_alike limit s p ranged k ih rules room hi fits hi' at' k' name v c d (in_order_of b) lawful f l e

  marker_alike : (k' a : ℕ) → Filled p at' hi' (mark 1 0 (tree_in limit k s Stream hi (a + 4))) → length (bytes_of (mark 1 0 (tree_in limit k s Stream hi (a + 4)))) ≤ k' → part_check limit k s Stream room hi (a + 4) (counting 0 1 c) ≡ gives d → part_check limit k' p Stream room hi' at' (without_pads c) ≡ gives (without_pads d)
  unfolding part_check bytes_of marker_stands
  marker_alike zero a f l e = absurd (omega (arith, mark_length 1 0 (tree_in limit k s Stream hi (a + 4))))
  marker_alike (suc k') a f l e =
      let rest : Tree = tree_in limit k s Stream hi (a + 4) in
      let m = marker_stands limit p ranged at' hi' (bytes_of rest) f.stands in
      let size = mark_length 1 0 rest in
      ap (on_found p (part_check limit k' p) (part_check limit k' p Stream room hi') room (without_pads c)) (met_found limit p ranged m.0 tt)
      ∙ ap (λ (y : List ℕ). part_check limit k' p Stream room hi' (at' + 4) (counting 0 1 y)) (counting_none pads (without_pads c))
      ∙ ap (part_check limit k' p Stream room hi' (at' + 4)) (zeroed_marker 1 c)
      ∙ ih Stream room hi (a + 4) hi' (at' + 4) k' (counting 0 1 c) d fits (record { stands = m.1; all = omega (arith, f.all, size) }) (omega (arith, size)) e

item_alike : (limit : ℕ) (s p : List ℕ) (ranged : out_of_range limit ≡ false) (k : ℕ) (ih : Alike-all limit s p ranged k) (room hi hi' at' k' : ℕ) (c d : List ℕ) (fits : hi ≤ length s) {rules : Rules} {z : ℕ} {x : Item} → ItemAt s hi rules z x → Lawful limit rules (tree_on s (tree_in limit k s) (tree_in limit k s rules hi) (gives x)) → Filled p at' hi' (tree_on s (tree_in limit k s) (tree_in limit k s rules hi) (gives x)) → length (bytes_of (tree_on s (tree_in limit k s) (tree_in limit k s rules hi) (gives x))) ≤ k' → on_answer s (part_check limit k s) (part_check limit k s rules room hi) room c (gives x) ≡ gives d → part_check limit k' p rules room hi' at' (without_pads c) ≡ gives (without_pads d)
item_alike limit s p ranged k ih room hi hi' at' k' c d fits (marker-at {a} e0 major minor ea inside within) lawful f l e = marker_alike limit s p ranged k ih room hi hi' at' c d fits k' a f l e
item_alike limit s p ranged k ih room hi hi' at' k' c d fits (value_in_stream {a} {v} b) lawful f l e = value_alike limit s p ranged k ih room hi hi' at' c d fits k' Stream [] v b lawful f l e
item_alike limit s p ranged k ih room hi hi' at' k' c d fits (value_in_sequence {a} {v} b) lawful f l e = value_alike limit s p ranged k ih room hi hi' at' c d fits k' Sequence [] v b lawful f l e
item_alike limit s p ranged k ih room hi hi' at' k' c d fits (field-at {a} {n} {v} id b) lawful f l e = value_alike limit s p ranged k ih room hi hi' at' c d fits k' Fields (part s a v.start) v b lawful f l e

stands_alike : (limit : ℕ) (s p : List ℕ) (ranged : out_of_range limit ≡ false) (k : ℕ) (ih : Alike-all limit s p ranged k) (room hi hi' at' k' : ℕ) (c d : List ℕ) (fits : hi ≤ length s) {rules : Rules} {z : ℕ} {o : Outcome Item} → Stands limit rules s hi z o → Lawful limit rules (tree_on s (tree_in limit k s) (tree_in limit k s rules hi) o) → Filled p at' hi' (tree_on s (tree_in limit k s) (tree_in limit k s rules hi) o) → length (bytes_of (tree_on s (tree_in limit k s) (tree_in limit k s rules hi) o)) ≤ k' → on_answer s (part_check limit k s) (part_check limit k s rules room hi) room c o ≡ gives d → part_check limit k' p rules room hi' at' (without_pads c) ≡ gives (without_pads d)
stands_alike limit s p ranged k ih room hi hi' at' k' c d fits {rules} (the_end q) lawful f l e =
    over_check limit p ranged k' rules room at' hi' (without_pads c) (omega (arith, f.all, none_length)) f.stands.within ∙ ap (λ (y : List ℕ). gives (without_pads y)) (given e)
  where
    given : {a b : List ℕ} → gives a ≡ gives b → a ≡ b
    given e = cc
stands_alike limit s p ranged k ih room hi hi' at' k' c d fits (the_item t w) lawful f l e = item_alike limit s p ranged k ih room hi hi' at' k' c d fits t lawful f l e
stands_alike limit s p ranged k ih room hi hi' at' k' c d fits (refused_there a b q) lawful f l e = absurd (let z : ◌≡◌ {A = ℕ} 0 1 = cc in omega arith)
stands_alike limit s p ranged k ih room hi hi' at' k' c d fits (no_part q) lawful f l e = absurd (let z : ◌≡◌ {A = ℕ} 0 1 = cc in omega arith)
stands_alike limit s p ranged k ih room hi hi' at' k' c d fits (no_limit q) lawful f l e = absurd (let z : ◌≡◌ {A = ℕ} 0 1 = cc in omega arith)

parts_alike : (limit : ℕ) (s p : List ℕ) (ranged : out_of_range limit ≡ false) (k : ℕ) → Alike-all limit s p ranged k
unfolding part_check tree_in step_of
parts_alike limit s p ranged zero rules room hi at hi' at' k' c d fits f l e =
    over_check limit p ranged k' rules room at' hi' (without_pads c) (omega (arith, f.all, none_length)) f.stands.within ∙ ap (λ (y : List ℕ). gives (without_pads y)) (given e)
  where
    given : {a b : List ℕ} → gives a ≡ gives b → a ≡ b
    given e = cc
parts_alike limit s p ranged (suc k) rules room hi at hi' at' k' c d fits f l e =
    let r = steps-sound limit rules s (cursor at hi) in
    let n : ℕ = length (found limit rules s (cursor at hi)).pads in
    ap (part_check limit k' p rules room hi' at') (sym (zeroed_pads n c))
    ∙ stands_alike limit s p ranged k (parts_alike limit s p ranged k) room hi hi' at' k' (counting pads n c) d fits r.2 (packs limit s (suc k) rules hi at).lawful f l e

pub packed-accepted : PackedAccepted
unfolding whole_check packed tree_of
packed-accepted limit deepest s c e =
    let q = refuse_gives (limits_out limit deepest) 68 0 e in
    let p : List ℕ = packed limit s in
    rw q.0
    (parts_alike limit s p (in_limit limit deepest q.0) (length s) Stream deepest (length s) 0 (length p) 0 (length p) none c (omega arith) (record { stands = whole_stands p; all = omega arith }) (omega arith) q.1)
