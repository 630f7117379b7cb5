-- A lawful tree's bytes, wherever they stand, are read back as that tree: each step meets what was written, and no pad.
-- Assumes nothing.
use Prim.Native.Nat.{ℕ, zero, suc, ◌+◌, ◌≤◌}
use native.Mathlib.Omega.{arith}
use mathlib.Core.Path.{◌≡◌, refl, ◌∙◌, sym, ap, subst}
use mathlib.Core.Bool.{true, false}
use mathlib.Core.List.{List, [], ◌∷◌, ◌++◌}
use lib.ListN.{length, get_or, length-append}
use Rattle.numbers.specs.Outcome.{gives}
use Rattle.numbers.specs.Bytes.{part}
use Rattle.numbers.specs.Format.{VarBytes, last, more, NumberAt}
use Rattle.framing.specs.Spans.{Spans}
use Rattle.framing.specs.Limits.{out_of_range}
use Rattle.framing.specs.Format.{ValueBytes}
use Rattle.framing.specs.Meaning.{Within}
use Rattle.stepping.specs.Items.{Item, finish, marker}
use Rattle.stepping.specs.Answers.{Found, step_of, answer_at}
use Rattle.stepping.specs.Format.{ItemAt, marker-at, value_in_stream, value_in_sequence, field-at}
use Rattle.stepping.specs.Meaning.{ItemWithin, arrived}
use Rattle.stepping.specs.Runs.{cursor}
use Rattle.stepping.specs.declared.cursor.Rules.{Rules}
use Rattle.stepping.specs.declared.cursor.Rules.TheVariants.{Stream}
use Rattle.stepping.proofs.Completeness.{steps-complete}
use Rattle.values.specs.Scalars.{is_container, body_rules}
use Rattle.encoding.specs.Meaning.{StandsAt}
use Rattle.encoding.proofs.Standing.{stands_first, stands_rest, stands_byte, stands_next}
use Rattle.packing.specs.Tree.{Head, Tree, mark, leaf, branch, header_of, wrapping, written, bytes_of}
use Rattle.packing.specs.Packed.{head_of, node_of, tree_on, tree_in}
use Rattle.packing.proofs.Values.{Framed}
use Rattle.packing.proofs.Back.{holds, rules_by, wire_kin, wire_kept, kin_holds, kin_rules, Stood, stood}
use Rattle.packing.proofs.Lawful.{Named, in_stream_none, in_sequence_none, by_id, Lawful, no_more, marked, scalar, holding, written_least, leaf_length, branch_length, mark_length, is_holding}

module _ (limit : ℕ) (s : List ℕ) (ranged : out_of_range limit ≡ false) where
  -- what stands at a position is what a step there answers
  pub met : {rules : Rules} {at hi : ℕ} {x : Item} (t : ItemAt s hi rules at x) → ItemWithin limit t → answer_at limit rules s at hi ≡ gives x
  unfolding step_of
  met {rules} {at} {hi} {x} t w =
      ap (λ (f : Found). f.answer) ((steps-complete limit rules s (cursor at hi) [] at arrived).item x t w) ∙ rw ranged

  pub over : (rules : Rules) (at hi : ℕ) → at ≡ hi → hi ≤ length s → answer_at limit rules s at hi ≡ gives (finish hi)
  unfolding step_of
  over rules at hi e h = ap (λ (f : Found). f.answer) ((steps-complete limit rules s (cursor at hi) [] at arrived).end e h) ∙ rw ranged

  -- a name and a value, as a step takes them
  pub item_back : {rules : Rules} {name : List ℕ} {at hi : ℕ} {annotations : List ℕ} {byte : ℕ} {body : List ℕ} (P : Rules → ℕ → ℕ → Tree) (O : ℕ → Tree) → Named rules name → StandsAt s at hi name → (x : Stood limit s (at + length name) hi annotations byte body) → tree_on s P O (answer_at limit rules s at hi) ≡ node_of s name x.v (P (body_rules x.v) x.v.end x.v.body) (O x.v.end)
  item_back {at = at} {hi} P O in_stream_none n x =
      let e : at + 0 ≡ at = omega arith in
      let b = subst (λ (a : ℕ). (b : ValueBytes s a hi x.v) × Within limit b) e (x.bytes, x.within) in
      ap (tree_on s P O) (met (value_in_stream b.0) b.1)
  item_back {at = at} {hi} P O in_sequence_none n x =
      let e : at + 0 ≡ at = omega arith in
      let b = subst (λ (a : ℕ). (b : ValueBytes s a hi x.v) × Within limit b) e (x.bytes, x.within) in
      ap (tree_on s P O) (met (value_in_sequence b.0) b.1)
  item_back {name = name} {at} {hi} P O (by_id bytes few) n x =
      let id : NumberAt s at hi (at + length name) = record { bytes = subst VarBytes (sym n.same) bytes; begins = omega (arith, some bytes); ends = n.fits; within = n.within } in
      ap (tree_on s P O) (met (field-at id x.bytes) (omega arith, x.within))
      ∙ ap (λ (l : List ℕ). node_of s l x.v (P (body_rules x.v) x.v.end x.v.body) (O x.v.end)) (ap (part s at) x.start ∙ n.same)
    where
      some : {bs : List ℕ} → VarBytes bs → 1 ≤ length bs
      some (last h) = omega arith
      some (more h r) = omega arith

-- the node of what was read back is the one that was written
module _ {limit : ℕ} {s : List ℕ} {a hi : ℕ} (h : Head) (body : List ℕ) (f : Framed limit (length h.annotations) h.byte (length body)) (x : Stood limit s a hi h.annotations h.byte body) where
  holds_same : is_container x.v ≡ holds h.byte
  holds_same = is_holding x.v ∙ ap holds x.byte_is ∙ kin_holds (wire_kin h.byte (length body) f.shape)

  pub rules_same : body_rules x.v ≡ rules_by h.byte
  rules_same = ap rules_by x.byte_is ∙ kin_rules (wire_kin h.byte (length body) f.shape)

  head_same : head_of s h.name x.v (length body) ≡ h
  head_same = rw (x.annotations_are, x.byte_is, wire_kept h.byte (length body) f.shape)

  pub leaf_back : holds h.byte ≡ false → (inside rest : Tree) → node_of s h.name x.v inside rest ≡ leaf h body rest
  unfolding node_of
  leaf_back c inside rest =
      rw (holds_same, c, x.body_is) (ap (λ (g : Head). leaf g body rest) head_same)

  pub branch_back : holds h.byte ≡ true → (inside rest : Tree) → bytes_of inside ≡ body → node_of s h.name x.v inside rest ≡ branch h inside rest
  unfolding node_of
  branch_back c inside rest e =
      rw (holds_same, c, e) (ap (λ (g : Head). branch g inside rest) head_same)

  -- the body stands where it was read back
  pub body_stands : x.v.end ≤ length s → StandsAt s x.v.body x.v.end body
  body_stands l =
      record {
        same = ap (part s x.v.body) (sym x.order) ∙ x.body_is;
        fits = omega (arith, x.order);
        within = l;
      }

module _ (limit : ℕ) (s : List ℕ) (ranged : out_of_range limit ≡ false) where
  -- what is written of a value, and what comes behind it
  pub record Parts (at hi : ℕ) (h : Head) (body rest : List ℕ) : Type 0 where
    pub name : StandsAt s at hi h.name
    pub value : Stood limit s (at + length h.name) hi h.annotations h.byte body
    pub behind : StandsAt s value.v.end hi rest
    pub size : value.v.end ≡ at + length (written h body)

  pub taken : (at hi : ℕ) (h : Head) (body rest : List ℕ) → Framed limit (length h.annotations) h.byte (length body) → StandsAt s at hi (written h body ++ rest) → Parts at hi h body rest
  unfolding written
  taken at hi h body rest f b =
      let w : List ℕ = wrapping h.annotations (header_of h.byte (length body) ++ body) in
      let first : StandsAt s at hi (h.name ++ w) = stands_first (written h body) rest b in
      let x : Stood limit s (at + length h.name) hi h.annotations h.byte body = stood limit s (at + length h.name) hi h.annotations h.byte body f (stands_rest h.name w first) in
      let e : x.v.end ≡ at + length (written h body) = x.end ∙ omega (arith, length-append h.name w) in
      record {
        name = stands_first h.name w first;
        value = x;
        behind = subst (λ (p : ℕ). StandsAt s p hi rest) (sym e) (stands_rest (written h body) rest b);
        size = e;
      }

  unfoldable pub marker_stands : (at hi : ℕ) (rest : List ℕ) → StandsAt s at hi (224 ∷ 1 ∷ 0 ∷ 234 ∷ rest) → ItemAt s hi Stream at (marker at 1 0 (at + 4)) × StandsAt s (at + 4) hi rest
  marker_stands at hi rest b =
      let c = stands_next 224 (1 ∷ 0 ∷ 234 ∷ rest) b in
      let d = stands_next 1 (0 ∷ 234 ∷ rest) c in
      let e = stands_next 0 (234 ∷ rest) d in
      let two : at + 1 + 1 ≡ at + 2 = omega arith in
      let three : at + 1 + 1 + 1 ≡ at + 3 = omega arith in
      let four : at + 1 + 1 + 1 + 1 ≡ at + 4 = omega arith in (
        marker-at (stands_byte 224 (1 ∷ 0 ∷ 234 ∷ rest) b) (stands_byte 1 (0 ∷ 234 ∷ rest) c)
            (subst (λ (p : ℕ). get_or s p 0 ≡ 0) two (stands_byte 0 (234 ∷ rest) d))
            (subst (λ (p : ℕ). get_or s p 0 ≡ 234) three (stands_byte 234 rest e))
            (omega (arith, b.fits)) b.within,
        subst (λ (p : ℕ). StandsAt s p hi rest) four (stands_next 234 rest e),
      )

  pub tree_back : {rules : Rules} {t : Tree} → Lawful limit rules t → (k at hi : ℕ) → StandsAt s at hi (bytes_of t) → hi ≡ at + length (bytes_of t) → length (bytes_of t) ≤ k → tree_in limit k s rules hi at ≡ t
  unfolding tree_in bytes_of marker_stands
  tree_back no_more zero at hi b e l = refl
  tree_back (no_more {rules}) (suc k) at hi b e l = ap (tree_on s (tree_in limit k s) (tree_in limit k s rules hi)) (over limit s ranged rules at hi (omega arith) b.within)
  tree_back (marked {rest} r) zero at hi b e l = absurd (omega (arith, mark_length 1 0 rest))
  tree_back (marked {rest} r) (suc k) at hi b e l =
      let m = marker_stands at hi (bytes_of rest) b in
      ap (tree_on s (tree_in limit k s) (tree_in limit k s Stream hi)) (met limit s ranged m.0 tt)
      ∙ ap (mark 1 0) (tree_back r k (at + 4) hi m.1 (omega (arith, mark_length 1 0 rest)) (omega (arith, mark_length 1 0 rest)))
  tree_back (scalar {h = h} {body = body} {rest = rest} n f c r) zero at hi b e l = absurd (omega (arith, leaf_length h body rest, written_least h body))
  tree_back (scalar {rules = rules} {h = h} {body = body} {rest = rest} n f c r) (suc k) at hi b e l =
      let p : Parts at hi h body (bytes_of rest) = taken at hi h body (bytes_of rest) f b in
      let v : Spans = p.value.v in
      let size = leaf_length h body rest in
      item_back limit s ranged (tree_in limit k s) (tree_in limit k s rules hi) n p.name p.value
      ∙ leaf_back h body f p.value c (tree_in limit k s (body_rules v) v.end v.body) (tree_in limit k s rules hi v.end)
      ∙ ap (leaf h body) (tree_back r k v.end hi p.behind (omega (arith, size, p.size)) (omega (arith, size, written_least h body)))
  tree_back (holding {h = h} {inside = inside} {rest = rest} n f c i r) zero at hi b e l = absurd (omega (arith, branch_length h inside rest, written_least h (bytes_of inside)))
  tree_back (holding {rules = rules} {h = h} {inside = inside} {rest = rest} n f c i r) (suc k) at hi b e l =
      let body : List ℕ = bytes_of inside in
      let p : Parts at hi h body (bytes_of rest) = taken at hi h body (bytes_of rest) f b in
      let v : Spans = p.value.v in
      let size = branch_length h inside rest in
      let ends : v.end ≤ length s = omega (arith, p.size, size, e, b.within) in
      let in-it : tree_in limit k s (body_rules v) v.end v.body ≡ inside = ap (λ (x : Rules). tree_in limit k s x v.end v.body) (rules_same h body f p.value) ∙ tree_back i k v.body v.end (body_stands h body f p.value ends) p.value.order (omega (arith, size, written_least h body)) in
      item_back limit s ranged (tree_in limit k s) (tree_in limit k s rules hi) n p.name p.value
      ∙ branch_back h body f p.value c (tree_in limit k s (body_rules v) v.end v.body) (tree_in limit k s rules hi v.end) (ap bytes_of in-it)
      ∙ ap (λ (t : Tree). branch h t (tree_in limit k s rules hi v.end)) in-it
      ∙ ap (branch h inside) (tree_back r k v.end hi p.behind (omega (arith, size, p.size)) (omega (arith, size, written_least h body)))
