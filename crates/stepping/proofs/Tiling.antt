-- The answers of a run tile its part: each call adds, in front of what the later ones tile, the pads that it skipped and its item.
-- Assumes nothing.
use Prim.Native.Nat.{ℕ, zero, suc, ◌≤◌, ◌<◌}
use native.Mathlib.Omega.{arith}
use mathlib.Core.Path.{◌≡◌, refl, sym, ap, subst}
use mathlib.Core.Bool.{Bool, true, false}
use mathlib.Core.Logic.{◌⊎◌, inl, inr, ⊎_elim}
use mathlib.Core.List.Memᴰ
use mathlib.Core.List.{List, [], ◌∷◌, Memᴰ}
use lib.ListN.{length}
use Rattle.numbers.specs.Outcome.{Outcome, gives, refuses, pick}
use Rattle.stepping.specs.Items.{Item, finish, item_end, Pad}
use Rattle.stepping.specs.Answers.{Found, passing, found, after, Stepped, step_of}
use Rattle.stepping.specs.Format.{ItemAt, marker-at, value_in_stream, value_in_sequence, field-at}
use Rattle.stepping.specs.Runs.{Answers, Run, none, call, handed_out, items, last_end, Piece, handed, skipped_all, of_call, pieces, Tiles, empty, pad, item}
use Rattle.stepping.specs.Theorems.{Tiling, RunsExist}
use Rattle.stepping.specs.declared.cursor.Cursor.{Cursor}
use Rattle.stepping.specs.declared.cursor.Rules.{Rules}
use Rattle.stepping.proofs.PadSkipping.{Skipping, at-end, at_pad, at_item, at_refusal, Finds, unranged, unfit, fit, finds}
use Rattle.stepping.proofs.Places.{pad_ends, in_ends, item_in}
use Rattle.stepping.proofs.Spans.{PadThere, pad-at, item-at}

-- what is handed out: its item and its spans
record HandedOut (i : Item) : Type 0 where
  out : (is : List Item) → handed_out (gives i) is ≡ i ∷ is
  spans : (to_its_end : Bool) (ps : List Pad) (rest : List Piece) → of_call to_its_end ps (gives i) rest ≡ skipped_all ps (handed i ∷ rest)

-- what a call that finds f from `at` adds in front of a tiling
data Adds (limit : ℕ) (rules : Rules) (s : List ℕ) (hi at : ℕ) : Found → Type 0 where
  ends : {ps : List Pad} → (at ≡ hi → ps ≡ []) → ((rest : List Piece) (z : ℕ) → Tiles limit rules s hi hi rest z → Tiles limit rules s hi at (skipped_all ps rest) z) → Adds limit rules s hi at (record { pads = ps; answer = gives (finish hi) })
  hands : {ps : List Pad} {i : Item} → HandedOut i → at < item_end i → item_end i ≤ hi → ((rest : List Piece) (z : ℕ) → Tiles limit rules s hi (item_end i) rest z → Tiles limit rules s hi at (skipped_all ps (handed i ∷ rest)) z) → Adds limit rules s hi at (record { pads = ps; answer = gives i })
  refuses_there : {ps : List Pad} {n p : ℕ} → Adds limit rules s hi at (record { pads = ps; answer = refuses n p })

-- the end is not handed out
ends_not : {p : ℕ} {i : Item} → HandedOut i → gives (finish p) ≡ gives i → ⊥
ends_not {p} {i} e q =
    let x : finish p ≡ i = cc in
    let y : ◌≡◌ {A = List Item} [] (finish p ∷ []) = subst (λ (j : Item). handed_out (gives j) [] ≡ j ∷ []) (sym x) (e.out []) in
    let z : ◌≡◌ {A = ℕ} 0 1 = cc in
    omega arith

-- an item of a part is no end
no_end : {s : List ℕ} {hi at : ℕ} {rules : Rules} {i : Item} → ItemAt s hi rules at i → HandedOut i
no_end (marker-at a b c d e f) = record { out = λ is. refl; spans = λ to_its_end ps rest. refl }
no_end (value_in_stream b) = record { out = λ is. refl; spans = λ to_its_end ps rest. refl }
no_end (value_in_sequence b) = record { out = λ is. refl; spans = λ to_its_end ps rest. refl }
no_end (field-at n b) = record { out = λ is. refl; spans = λ to_its_end ps rest. refl }

module _ (limit : ℕ) (rules : Rules) (s : List ℕ) (hi : ℕ) where
  past_pad : {at b e : ℕ} {f : Found} → at < e → e ≤ hi → PadThere rules s hi at b e → Adds limit rules s hi e f → Adds limit rules s hi at (passing (record { start = at; body = b; end = e }) f)
  past_pad h k t (ends n w) = ends (λ q. absurd (omega arith)) (λ rest z x. pad t.0 t.1 (w rest z x))
  past_pad h k t (hands n l m w) = hands n (omega arith) m (λ rest z x. pad t.0 t.1 (w rest z x))
  past_pad h k t refuses_there = refuses_there

  adds : {at : ℕ} {f : Found} → hi ≤ length s → Skipping limit rules s hi at f → Adds limit rules s hi at f
  adds k at-end = ends (λ q. refl) (λ rest z x. x)
  adds k (at_pad l h d) = let p = pad_ends limit rules s h in past_pad (omega arith) p.2 (pad-at limit rules s l k h) (adds k d)
  adds k (at_item l h) =
      let i = item-at limit rules s l k h in
      let b = in_ends (item_in limit rules s h) in
      hands (no_end i.0) b.0 b.1 (λ rest z x. item i.0 i.1 x)
  adds k (at_refusal l h) = refuses_there

of-call : (limit : ℕ) {rules : Rules} {s : List ℕ} {c : Cursor} {f : Found} → Finds limit rules s c f → Adds limit rules s c.end c.at f
of-call limit (unranged g) = refuses_there
of-call limit (unfit g h) = refuses_there
of-call limit {rules} {s} {c} (fit g l m w) = adds limit rules s c.end m w

-- what any call adds, and the cursor that it leaves
called : (limit : ℕ) (rules : Rules) (s : List ℕ) (c : Cursor) (r : Stepped) → Answers limit rules s c r → Adds limit rules s c.end c.at (record { pads = (found limit rules s c).pads; answer = r.answer }) × (r.next ≡ after c r.answer)
unfolding step_of
called limit rules s c r a = rw a (of-call limit (finds limit rules s c), refl)

module _ (limit : ℕ) (rules : Rules) (s : List ℕ) where
  -- past the end there is no span
  over : {c : Cursor} {rs : List Stepped} → Run (Answers limit rules s) c rs → c.at ≡ c.end → (to_its_end : Bool) → (items rs ≡ []) × (pieces limit to_its_end rules s c rs ≡ [])
  over none h to_its_end = (refl, refl)
  over (call {c} {r} {rs} a run) h to_its_end =
      let w = called limit rules s c r a in
      go (found limit rules s c).pads w.0 (λ q. over run q to_its_end) w.1
    where
      go : (ps : List Pad) {o : Outcome Item} {n : Cursor} → Adds limit rules s c.end c.at (record { pads = ps; answer = o }) → (n.at ≡ n.end → (items rs ≡ []) × (pieces limit to_its_end rules s n rs ≡ [])) → n ≡ after c o → (handed_out o (items rs) ≡ []) × (of_call to_its_end ps o (pieces limit to_its_end rules s n rs) ≡ [])
      go ps (ends e t) ih q = let i = ih (rw q) in (i.0, rw (e h) (nothing to_its_end i.1))
        where
          nothing : (b : Bool) {x : List Piece} → x ≡ [] → pick b x x ≡ []
          nothing true q = q
          nothing false q = q
      go ps (hands e l m t) ih q = absurd (omega arith)
      go ps refuses_there ih q = ih (rw q h)

  -- the items, with the pads before them
  to_last : {c : Cursor} {rs : List Stepped} → Run (Answers limit rules s) c rs → Tiles limit rules s c.end c.at (pieces limit false rules s c rs) (last_end c.at (items rs))
  to_last none = empty
  to_last (call {c} {r} {rs} a run) = let w = called limit rules s c r a in go (found limit rules s c).pads w.0 w.1 run (to_last run)
    where
      go : (ps : List Pad) {o : Outcome Item} {n : Cursor} → Adds limit rules s c.end c.at (record { pads = ps; answer = o }) → n ≡ after c o → Run (Answers limit rules s) n rs → Tiles limit rules s n.end n.at (pieces limit false rules s n rs) (last_end n.at (items rs)) → Tiles limit rules s c.end c.at (of_call false ps o (pieces limit false rules s n rs)) (last_end c.at (handed_out o (items rs)))
      go ps (ends e t) q run ih = let i = over run (rw q) false in rw (i.0, i.1) empty
      go ps {n = n} (hands {i = i} e l m t) q run ih =
          rw (e.out (items rs), e.spans false ps (pieces limit false rules s n rs))
          (t (pieces limit false rules s n rs) (last_end (item_end i) (items rs)) (subst (λ (x : Cursor). Tiles limit rules s x.end x.at (pieces limit false rules s n rs) (last_end x.at (items rs))) q ih))
      go ps {n = n} refuses_there q run ih = subst (λ (x : Cursor). Tiles limit rules s x.end x.at (pieces limit false rules s n rs) (last_end x.at (items rs))) q ih

  -- and the whole part, where a call says end
  to_end : {c : Cursor} {rs : List Stepped} → Run (Answers limit rules s) c rs → (p : ℕ) (next : Cursor) → Memᴰ (record { answer = gives (finish p); next = next }) rs → (p ≡ c.end) × Tiles limit rules s c.end c.at (pieces limit true rules s c rs) c.end
  to_end none p next m = elim m [ ]
  to_end (call {c} {r} {rs} a run) p next m =
      let w = called limit rules s c r a in
      go (found limit rules s c).pads w.0 w.1 run (to_end run p next) (⊎_elim (λ q. inl (ap (λ (x : Stepped). x.answer) q)) (λ y. inr y) (Memᴰ.cases_cons m))
    where
      go : (ps : List Pad) {o : Outcome Item} {n : Cursor} → Adds limit rules s c.end c.at (record { pads = ps; answer = o }) → n ≡ after c o → Run (Answers limit rules s) n rs → (Memᴰ (record { answer = gives (finish p); next = next }) rs → (p ≡ n.end) × Tiles limit rules s n.end n.at (pieces limit true rules s n rs) n.end) → (gives (finish p) ≡ o) ⊎ Memᴰ (record { answer = gives (finish p); next = next }) rs → (p ≡ c.end) × Tiles limit rules s c.end c.at (of_call true ps o (pieces limit true rules s n rs)) c.end
      go ps (ends e t) q run ih (inl x) = (cc, rw (over run (rw q) true).1 (t [] c.end empty))
      go ps {n = n} (ends e t) q run ih (inr m) =
          let i = subst (λ (x : Cursor). (p ≡ x.end) × Tiles limit rules s x.end x.at (pieces limit true rules s n rs) x.end) q (ih m) in
          (i.0, rw (over run (rw q) true).1 (t [] c.end empty))
      go ps (hands {i = i} e l m t) q run ih (inl x) = absurd (ends_not e x)
      go ps {n = n} (hands {i = i} e l m t) q run ih (inr x) =
          let y = subst (λ (z : Cursor). (p ≡ z.end) × Tiles limit rules s z.end z.at (pieces limit true rules s n rs) z.end) q (ih x) in
          (y.0, rw (e.spans true ps (pieces limit true rules s n rs)) (t (pieces limit true rules s n rs) c.end y.1))
      go ps refuses_there q run ih (inl e) = let z : ◌≡◌ {A = ℕ} 0 1 = cc in absurd (omega arith)
      go ps {n = n} refuses_there q run ih (inr m) = subst (λ (x : Cursor). (p ≡ x.end) × Tiles limit rules s x.end x.at (pieces limit true rules s n rs) x.end) q (ih m)

pub tiling : Tiling
tiling limit rules s lo hi rs run = record { up_to_last = to_last limit rules s run; at_end = to_end limit rules s run }

pub runs : RunsExist
runs limit rules s zero c = ([], none, refl)
runs limit rules s (suc n) c =
    let r : Stepped = step_of limit rules s c in
    let i = runs limit rules s n r.next in
    (r ∷ i.0, call refl i.1, ap suc i.2)
