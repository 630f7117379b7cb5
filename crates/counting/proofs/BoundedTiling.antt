-- The answers of a run of bounded steps tile its part: each call adds the pads that it passed and its item in front of what the later ones tile.
-- Assumes nothing.
use Prim.Native.Nat.{ℕ, zero, suc, ◌≤◌}
use native.Mathlib.Omega.{arith}
use borrow.Author.Tests.{ltb-false}
use mathlib.Core.Path.{◌≡◌, refl, ◌∙◌, sym, ap, subst}
use mathlib.Core.Bool.{Bool, true, false, true≢false}
use mathlib.Core.Logic.{⊎_elim}
use mathlib.Core.List.Memᴰ
use mathlib.Core.List.{List, [], ◌∷◌, Memᴰ}
use lib.ListN.{length, take}
use lib.Dec.{ltb, eqb}
use Rattle.numbers.specs.Outcome.{Outcome, gives, refuses, outside_of}
use Rattle.numbers.proofs.Outcomes.{by_test, inside_order, inside_end}
use Rattle.framing.specs.Limits.{out_of_range}
use Rattle.stepping.specs.Items.{Item, finish, Pad}
use Rattle.stepping.specs.Answers.{found, after, step_of}
use Rattle.stepping.specs.Format.{ItemAt, marker-at, value_in_stream, value_in_sequence, field-at}
use Rattle.stepping.specs.Meaning.{Skips, arrived, passed, Stands, the_end, the_item, refused_there, no_part, no_limit}
use Rattle.stepping.specs.Runs.{Piece, handed, skipped_all, of_call, Tiles, empty, pad, item}
use Rattle.stepping.specs.declared.cursor.Cursor.{Cursor}
use Rattle.stepping.specs.declared.cursor.Rules.{Rules}
use Rattle.stepping.proofs.Soundness.{steps-sound}
use Rattle.stepping.proofs.Places.{ItemIn, a_marker, a_value, a_field, in_ends}
use Rattle.stepping.proofs.Moves.{Moves, ends, hands, stops, moves}
use Rattle.counting.specs.Counted.{unbegun, counted}
use Rattle.counting.specs.Bounded.{Bounded, reached, more, behind_pads, pad_next, stops_among, bounded_in, bounded, bounded_after, BoundedStepped, bounded_step_of}
use Rattle.counting.specs.BoundedRuns.{BoundedRun, none, call, of_bounded, bounded_pieces, left_by}
use Rattle.counting.specs.Theorems.{BoundedTiling, BoundedRunsExist}
use Rattle.counting.proofs.Finding.{found_skipping}
use Rattle.counting.proofs.Passing.{pads_pass, passes_order}

-- as many pads are passed as may be
pub among : (most : ℕ) (rules : Rules) (s : List ℕ) (c : Cursor) (ps : List Pad) → stops_among most rules s c ps ≡ true → (most ≤ length ps) × (pad_next rules s (behind_pads most c.at ps) c.end ≡ true)
unfolding stops_among
among most rules s c ps =
    by_test (λ (t : Bool). t ≡ true → (most ≤ length ps) × (pad_next rules s (behind_pads most c.at ps) c.end ≡ true)) (ltb (length ps) most)
    (λ _ e. absurd (true≢false (sym e)))
    (λ h e. (ltb-false (length ps) most h, e))

-- a property of a bounded step's answer: of 50, of 67, of kind 4 and of the step's own
pub by_answer : (P : Bounded → Type 0) (limit most : ℕ) (rules : Rules) (s : List ℕ) (c : Cursor)
    → ((n : ℕ) → P (reached (unbegun n)))
    → (out_of_range limit ≡ false → outside_of s c.at c.end ≡ false → most ≤ length (found limit rules s c).pads → pad_next rules s (behind_pads most c.at (found limit rules s c).pads) c.end ≡ true → P (more most (behind_pads most c.at (found limit rules s c).pads)))
    → (out_of_range limit ≡ false → outside_of s c.at c.end ≡ false → P (reached (counted limit rules s c)))
    → P (bounded limit most rules s c)
unfolding bounded bounded_in
by_answer P limit most rules s c refusal stopped plain =
    by_test P (out_of_range limit) (λ _. refusal 68) (λ g.
    by_test P (outside_of s c.at c.end) (λ _. refusal 50) (λ o.
    by_test P (eqb most 0) (λ _. refusal 67) (λ _.
    by_test P (stops_among most rules s c (found limit rules s c).pads)
    (λ t. let w = among most rules s c (found limit rules s c).pads t in stopped g o w.0 w.1)
    (λ _. plain g o))))

-- ---- what a call adds

module _ (limit : ℕ) (rules : Rules) (s : List ℕ) (hi : ℕ) where
  skips_tiles : {a b z : ℕ} {ps : List Pad} {rest : List Piece} → Skips rules s hi a ps b → Tiles limit rules s hi b rest z → Tiles limit rules s hi a (skipped_all ps rest) z
  skips_tiles arrived x = x
  skips_tiles (passed t l r) x = pad t l (skips_tiles r x)

-- the first n of these pads
pub skips_take : (rules : Rules) (s : List ℕ) (hi : ℕ) {a b : ℕ} {ps : List Pad} (n : ℕ) → Skips rules s hi a ps b → n ≤ length ps → Skips rules s hi a (take n ps) (behind_pads n a ps)
skips_take rules s hi zero r h = arrived
skips_take rules s hi (suc n) arrived h = absurd (omega arith)
skips_take rules s hi (suc n) (passed t l r) h = passed t l (skips_take rules s hi n r (omega arith))

-- an item of a part is handed out
handed_out : {s : List ℕ} {hi a : ℕ} {rules : Rules} {i : Item} → ItemAt s hi rules a i → (ps : List Pad) (rest : List Piece) → of_call true ps (gives i) rest ≡ skipped_all ps (handed i ∷ rest)
handed_out (marker-at e0 major minor ea fits within) ps rest = refl
handed_out (value_in_stream b) ps rest = refl
handed_out (value_in_sequence b) ps rest = refl
handed_out (field-at id b) ps rest = refl

stands_tiles : (limit : ℕ) (rules : Rules) (s : List ℕ) (c : Cursor) (ps : List Pad) {b z : ℕ} {o : Outcome Item} {rest : List Piece} → Skips rules s c.end c.at ps b → Stands limit rules s c.end b o → Tiles limit rules s c.end (after c o).at rest z → Tiles limit rules s c.end c.at (of_call true ps o rest) z
stands_tiles limit rules s c ps {z = z} {rest = rest} k (the_end e) x = skips_tiles limit rules s c.end k (subst (λ (a : ℕ). Tiles limit rules s c.end a rest z) (sym e) x)
stands_tiles limit rules s c ps {rest = rest} k (the_item t w) x = rw (handed_out t ps rest) (skips_tiles limit rules s c.end k (item t w x))
stands_tiles limit rules s c ps k (refused_there l m e) x = x
stands_tiles limit rules s c ps k (no_part e) x = x
stands_tiles limit rules s c ps k (no_limit e) x = x

module _ (limit most : ℕ) (rules : Rules) (s : List ℕ) (c : Cursor) where
  call_tiles : (rest : List Piece) (z : ℕ) → Tiles limit rules s c.end (bounded_after c (bounded limit most rules s c)).at rest z → Tiles limit rules s c.end c.at (of_bounded (found limit rules s c).pads (bounded limit most rules s c) rest) z
  unfolding counted
  call_tiles rest z =
      by_answer (λ (r : Bounded). Tiles limit rules s c.end (bounded_after c r).at rest z → Tiles limit rules s c.end c.at (of_bounded (found limit rules s c).pads r rest) z) limit most rules s c
      (λ _ x. x)
      (λ g o h _ x. skips_tiles limit rules s c.end (skips_take rules s c.end most (steps-sound limit rules s c).1 h) x)
      (λ g o x. let w = steps-sound limit rules s c in stands_tiles limit rules s c (found limit rules s c).pads w.1 w.2 x)

-- ---- the cursor that a call leaves

-- the part's end is kept
after_end : (c : Cursor) (r : Bounded) → (bounded_after c r).end ≡ c.end
after_end c (reached r) = step_end r.answer
  where
    step_end : (o : Outcome Item) → (after c o).end ≡ c.end
    step_end (gives i) = refl
    step_end (refuses n p) = refl
after_end c (more n p) = refl

-- what a bounded call answers, by the cursor that it leaves
data Leaves (c : Cursor) : Bounded → Type 0 where
  as_given : {n p x y : ℕ} → Leaves c (reached (record { answer = refuses n p; pads = x; names = y }))
  at_its_end : {x y : ℕ} → Leaves c (reached (record { answer = gives (finish c.end); pads = x; names = y }))
  behind_item : {i : Item} {x y : ℕ} → ItemIn c.at c.end i → Leaves c (reached (record { answer = gives i; pads = x; names = y }))
  among_pads : {n p : ℕ} → c.at ≤ p → p ≤ c.end → Leaves c (more n p)

step_leaves : (c : Cursor) {o : Outcome Item} (x y : ℕ) → Moves c.at c.end o → Leaves c (reached (record { answer = o; pads = x; names = y }))
step_leaves c x y ends = at_its_end
step_leaves c x y (hands i) = behind_item i
step_leaves c x y (stops d) = as_given

leaves : (limit most : ℕ) (rules : Rules) (s : List ℕ) (c : Cursor) → Leaves c (bounded limit most rules s c)
unfolding counted step_of
leaves limit most rules s c =
    by_answer (Leaves c) limit most rules s c
    (λ n. as_given)
    (λ g o h _.
    let l = inside_order s c.at c.end o in
    let b = passes_order limit rules s c.end (pads_pass limit rules s c.end (found_skipping limit rules s g c.at c.end l (inside_end s c.at c.end o)) most h) l in
    among_pads (omega (arith, b.0)) b.1)
    (λ g o.
    step_leaves c (counted limit rules s c).pads (counted limit rules s c).names
    (moves limit rules s c.end (inside_end s c.at c.end o) c.at (inside_order s c.at c.end o)))

-- at the part's end it stays there
stays : {c : Cursor} {r : Bounded} → Leaves c r → c.at ≡ c.end → (bounded_after c r).at ≡ c.end
stays as_given e = e
stays at_its_end e = refl
stays (behind_item i) e = absurd (omega (arith, (in_ends i).0, (in_ends i).1))
stays (among_pads l h) e = omega arith

-- the step's answer among the answers
abbrev step_answer : Bounded → Outcome Item
step_answer (reached r) = r.answer
step_answer (more n p) = refuses n p

no_end : {a b p : ℕ} {i : Item} → ItemIn a b i → i ≡ finish p → ⊥
no_end (a_marker l h) e = let z : ◌≡◌ {A = ℕ} 0 1 = cc in omega arith
no_end (a_value v) e = let z : ◌≡◌ {A = ℕ} 0 1 = cc in omega arith
no_end (a_field v) e = let z : ◌≡◌ {A = ℕ} 0 1 = cc in omega arith

-- an end is the part's
end_is : {c : Cursor} {r : Bounded} {p : ℕ} → Leaves c r → step_answer r ≡ gives (finish p) → p ≡ c.end
end_is as_given e = absurd (let z : ◌≡◌ {A = ℕ} 0 1 = cc in omega arith)
end_is at_its_end e = cc
end_is {p = p} (behind_item {i} b) e = absurd (let z : i ≡ finish p = cc in no_end b z)
end_is (among_pads l h) e = absurd (let z : ◌≡◌ {A = ℕ} 0 1 = cc in omega arith)

-- ---- runs

module _ (limit : ℕ) (rules : Rules) (s : List ℕ) where
  to_cursor : {c : Cursor} {rs : List BoundedStepped} → BoundedRun limit rules s c rs → Tiles limit rules s c.end c.at (bounded_pieces limit rules s c rs) (left_by c rs).at
  unfolding bounded_step_of
  to_cursor none = empty
  to_cursor (call {c} {r} {rs} most q run) =
      subst (λ (x : BoundedStepped). Tiles limit rules s x.next.end x.next.at (bounded_pieces limit rules s x.next rs) (left_by x.next rs).at → Tiles limit rules s c.end c.at (of_bounded (found limit rules s c).pads x.answer (bounded_pieces limit rules s x.next rs)) (left_by x.next rs).at) (sym q)
      (λ x.
      let n : Cursor = bounded_after c (bounded limit most rules s c) in
      call_tiles limit most rules s c (bounded_pieces limit rules s n rs) (left_by n rs).at
      (subst (λ (hi : ℕ). Tiles limit rules s hi n.at (bounded_pieces limit rules s n rs) (left_by n rs).at) (after_end c (bounded limit most rules s c)) x))
      (to_cursor run)

  over : {c : Cursor} {rs : List BoundedStepped} → BoundedRun limit rules s c rs → c.at ≡ c.end → (left_by c rs).at ≡ c.end
  unfolding bounded_step_of
  over none e = e
  over (call {c} {r} {rs} most q run) e =
      let a = after_end c (bounded limit most rules s c) in
      let n : r.next ≡ bounded_after c (bounded limit most rules s c) = ap (λ (x : BoundedStepped). x.next) q in
      let h : r.next.at ≡ r.next.end = ap (λ (x : Cursor). x.at) n ∙ stays (leaves limit most rules s c) e ∙ sym (ap (λ (x : Cursor). x.end) n ∙ a) in
      over run h ∙ ap (λ (x : Cursor). x.end) n ∙ a

  to_end : {c : Cursor} {rs : List BoundedStepped} (p x y : ℕ) (next : Cursor) → BoundedRun limit rules s c rs → Memᴰ (record { answer = reached (record { answer = gives (finish p); pads = x; names = y }); next = next }) rs → (p ≡ c.end) × ((left_by c rs).at ≡ c.end)
  unfolding bounded_step_of
  to_end p x y next none m = elim m [ ]
  to_end p x y next (call {c} {r} {rs} most q run) m =
      let a = after_end c (bounded limit most rules s c) in
      let n : r.next ≡ bounded_after c (bounded limit most rules s c) = ap (λ (z : BoundedStepped). z.next) q in
      let k : r.next.end ≡ c.end = ap (λ (z : Cursor). z.end) n ∙ a in
      ⊎_elim
      (λ e.
      let f : bounded limit most rules s c ≡ reached (record { answer = gives (finish p); pads = x; names = y }) = sym (ap (λ (z : BoundedStepped). z.answer) (e ∙ q)) in
      let w : p ≡ c.end = end_is (leaves limit most rules s c) (ap step_answer f) in
      let h : r.next.at ≡ r.next.end = ap (λ (z : Cursor). z.at) n ∙ ap (λ (z : Bounded). (bounded_after c z).at) f ∙ w ∙ sym k in
      (w, over run h ∙ k))
      (λ i. let w = to_end p x y next run i in (w.0 ∙ k, w.1 ∙ k))
      (Memᴰ.cases_cons m)

pub bounded_tiling : BoundedTiling
bounded_tiling limit rules s lo hi rs run =
    record { up_to_cursor = to_cursor limit rules s run; at_end = λ p x y next m. to_end limit rules s p x y next run m }

pub bounded_runs : BoundedRunsExist
bounded_runs limit most rules s zero c = ([], none, refl)
bounded_runs limit most rules s (suc n) c =
    let r : BoundedStepped = bounded_step_of limit most rules s c in
    let i = bounded_runs limit most rules s n r.next in
    (r ∷ i.0, call most refl i.1, ap suc i.2)
