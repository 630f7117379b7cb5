-- What a function's theorem says of the machine's own runs, for a function whose contract fixes its result. It cites nothing of any crate.
-- Assumes nothing.
use mathlib.Core.Path.{◌≡◌, ◌∙◌, sym, ap}
use mathlib.Core.List.{List, [], ◌∷◌}
use mathlib.Core.Logic.{◌⊎◌, inl, inr, ∥∥₁_prop, ∥∥₁_elim, ∥∥₁_map}
use seplogic.Ra.Ura.{Ura}
use types.Logic.{Logic, sem}
use base.Logic.{SProp, ent, emp, sep, id⊢, via, fst∗, snd∗, mono_l}
use base.Stored.{Coded-set}
use mir.Val.{Val, vunit}
use prog.Memory.{Memory}
use prog.Model.{Model}
use prog.Routine.{Routine, ends, ends-one, any_callee}
use contract.Monad.{fact, fact_mono}
use contract.Lifetimes.{Lfts, Shares, AllOutlive}
use contract.Running.{Running, tables, strict}
use contract.Adequate.{sat_weaken, sat_⇛, sat_fact}
use denote.RattleType.{RattleType, flat}
use denote.Signature.{Signature, type_at, types_at}
use denote.Laws.{Is, shows}
use denote.Lowered.{Lowered}
use denote.Triple.Entry.{Args, Vals, Res, alive, on_entry}
use denote.Triple.Adequate.{adequate}
use denote.Triple.Spec.{Meets}
use denote.Triple.Clauses.{Ended, Lasts, at_exit, Clauses, closing}
use denote.Ask.Bracket.{Bracket, bracket_of, told_out, beside}
use denote.Ask.Computes.{of_spec}
use denote.Ask.Run.{routine_mono}
use Rattle.runs.specs.Machine.{Passed, Returned, Ends}

first : List Val → Val
first [] = vunit
first (v ∷ vs) = v

only_value : (R : RattleType) (L : Lowered R) (x : R.Denot) (v : Val) → Is R x (v ∷ []) → v ≡ L.lowered x
unfolding first
only_value R L x v p = ap first (L.val_is x (v ∷ []) p)

-- S is the function's signature and ρ its routine, and L says the machine's value of each result
module _ {M : Type 1} {𝓤 : Ura M} (𝓛 : Logic 𝓤) (𝓜 : Model 𝓤 𝓛.H) (𝓡 : Running 𝓤 𝓛.H 𝓜) (S : Signature) (ρ : Routine) (κs : Lfts S.lifetimes) (bounds : AllOutlive S.lifetimes S.outlives κs) (L : Lowered (type_at S.result κs)) where
  open 𝓛 use {H}

  module _ (a : Args S κs) (r : Res S κs) (gives : Bracket 𝓛 S (𝓡.returns ρ) κs a r) where
    -- a call ends, and returns the machine's value of what the contract says
    pub returns : (σ : Memory) (vss : Vals S κs) → Passed 𝓛 𝓜 S ρ κs bounds L σ a vss → ∥ ((σ' : Memory) × ends ρ (flat (types_at S.params κs) vss) σ (L.lowered r) σ') ∥₁
    returns σ vss passed =
        let qs : Shares S.lifetimes = passed.0 in
        let E : SProp 𝓤 = on_entry 𝓛 S κs qs a vss in
        let R : RattleType = type_at S.result κs in
        let Al : SProp 𝓤 = alive 𝓛 S κs qs in
        let Ow : Val → SProp 𝓤 = λ v. sem 𝓛 (R.own_val r (v ∷ [])) in
        let Own : Val → SProp 𝓤 = λ v. sep 𝓤 Al (Ow v) in
        ∥∥₁_elim
        (adequate 𝓤 H 𝓜 (tables 𝓤 H 𝓜 (strict 𝓤 H 𝓜 𝓡) (λ _. ρ)) ((λ s o. o), tt) any_callee (bracket_of 𝓛 S κs a r) gives (qs, bounds, vss) σ (emp 𝓤)
        (sat_weaken 𝓤 H 𝓜 σ (beside 𝓤 E (emp 𝓤) (id⊢ 𝓤 (emp 𝓤))) passed.1))
        ∥∥₁_prop (λ t.
        let v : Val = t.1 in
        let σ' : Memory = t.2 in
        ∥∥₁_map
        (sat_fact 𝓤 H 𝓜 σ' (sep 𝓤 (Own v) (emp 𝓤)) (Is R r (v ∷ []))
        (via 𝓤 (sep 𝓤 (Own v) (emp 𝓤)) (snd∗ 𝓤 (𝓜.mem σ') (sep 𝓤 (Own v) (emp 𝓤)))
        (via 𝓤 (Own v) (fst∗ 𝓤 (Own v) (emp 𝓤)) (via 𝓤 (Ow v) (snd∗ 𝓤 Al (Ow v)) (shows 𝓛 R r (v ∷ [])))))
        (sat_⇛ 𝓤 H 𝓜 σ' (Own v) (emp 𝓤)
        (sat_weaken 𝓤 H 𝓜 σ' (mono_l 𝓤 (emp 𝓤) (told_out 𝓛 S (κs, qs, bounds, a, vss) r v)) t.4)))
        (λ is. (σ', (t.0, rw (← only_value R L r v is) t.3))))

    -- and whatever the machine returned is that, where two results with one machine value are one
    pub returned : ((x y : Res S κs) → L.lowered x ≡ L.lowered y → x ≡ y) → (r' : Res S κs) → Returned 𝓛 𝓜 S ρ κs bounds L a r' → r' ≡ r
    returned inj r' x =
        ∥∥₁_elim (returns x.0 x.2 x.3) (Coded-set (type_at S.result κs).coded r' r) (λ t.
        inj r' r (ap (λ y. y.0) (ends-one ρ (flat (types_at S.params κs) x.2) x.0 (L.lowered r', x.1) (L.lowered r, t.0) x.4 t.1)))

-- both: P holds of whatever the machine returned, and a call ends with a result of which P holds
pub record Answered {M : Type 1} {𝓤 : Ura M} (𝓛 : Logic 𝓤) (𝓜 : Model 𝓤 𝓛.H) (S : Signature) (ρ : Routine) (κs : Lfts S.lifetimes) (bounds : AllOutlive S.lifetimes S.outlives κs) (L : Lowered (type_at S.result κs)) (a : Args S κs) (P : Res S κs → Type 0) : Type 1 where
  pub returned : (y : Res S κs) → Returned 𝓛 𝓜 S ρ κs bounds L a y → P y
  pub ends : Ends 𝓛 𝓜 S ρ κs bounds L a P

-- how results are read, and made from what they are read as, where there is one; and two results
pub record Reading (Y X : Type 0) : Type 0 where
  pub read : Y → X
  pub made : X → Y
  pub made_read : (y : Y) → made (read y) ≡ y
  pub known : (x : X) → (read (made x) ≡ x) ⊎ ((y : Y) → read y ≡ x → ⊥)
  pub one : Y
  pub other : Y
  pub differ : one ≡ other → ⊥

-- the same from a function's own theorem: T is its signature with what ends with its borrows, cl its clauses, met its theorem. Where its contract says what its
-- result is read as, x, and `made` gives each result back from what it is read as, whatever the machine returned is read so, and every call ends and returns what
-- is read so. Where no result is read as x, no call is made at all: else it would return each of two results.
module _ {M : Type 1} {𝓤 : Ura M} (𝓛 : Logic 𝓤) (𝓜 : Model 𝓤 𝓛.H) (𝓡 : Running 𝓤 𝓛.H 𝓜) (T : Ended) (ρ : Routine) (cl : Clauses 𝓤 T) (met : Meets 𝓛 T.signature (𝓡.returns ρ) (closing 𝓛 T cl)) (κs : Lfts T.signature.lifetimes) (bounds : AllOutlive T.signature.lifetimes T.signature.outlives κs) (L : Lowered (type_at T.signature.result κs)) where
  open 𝓛 use {H}

  module _ {X : Type 0} (R : Reading (Res T.signature κs) X) (inj : (y z : Res T.signature κs) → L.lowered y ≡ L.lowered z → y ≡ z) where
    module _ (a : Args T.signature κs) (g : (cl κs a).ghost) (x : X) (pre : ent 𝓤 (emp 𝓤) ((cl κs a).requires g)) (tells : (y : Res T.signature κs) (ws : Lasts T κs a) → ent 𝓤 ((cl κs a).ensures g y (at_exit T κs a ws)) (fact 𝓤 (R.read y ≡ x))) where
      meets : (r : Res T.signature κs) → ((z : Res T.signature κs) → R.read z ≡ x → z ≡ r) → Bracket 𝓛 T.signature (𝓡.returns ρ) κs a r
      meets r is =
          of_spec 𝓛 T (𝓡.returns ρ) (routine_mono 𝓤 H 𝓜 (strict 𝓤 H 𝓜 𝓡) ρ) cl met κs a g r pre (λ z ws.
          via 𝓤 (fact 𝓤 (R.read z ≡ x)) (tells z ws) (fact_mono 𝓤 (R.read z ≡ x) (z ≡ r) (is z)))

      by_known : (R.read (R.made x) ≡ x) ⊎ ((y : Res T.signature κs) → R.read y ≡ x → ⊥) → Answered 𝓛 𝓜 T.signature ρ κs bounds L a (λ y. R.read y ≡ x)
      by_known (inl e) =
          let b : Bracket 𝓛 T.signature (𝓡.returns ρ) κs a (R.made x) = meets (R.made x) (λ z q. sym (R.made_read z) ∙ ap R.made q) in
          record {
            returned = λ y back. ap R.read (returned 𝓛 𝓜 𝓡 T.signature ρ κs bounds L a (R.made x) b inj y back) ∙ e;
            ends = λ σ vss passed.
                ∥∥₁_map (returns 𝓛 𝓜 𝓡 T.signature ρ κs bounds L a (R.made x) b σ vss passed) (λ t. (R.made x, e, t.0, t.1));
          }
      by_known (inr n) =
          let b : Bracket 𝓛 T.signature (𝓡.returns ρ) κs a R.one = meets R.one (λ z q. absurd (n z q)) in
          let b' : Bracket 𝓛 T.signature (𝓡.returns ρ) κs a R.other = meets R.other (λ z q. absurd (n z q)) in
          record {
            returned = λ y back.
                absurd
                (R.differ
                (sym (returned 𝓛 𝓜 𝓡 T.signature ρ κs bounds L a R.one b inj y back)
                ∙ returned 𝓛 𝓜 𝓡 T.signature ρ κs bounds L a R.other b' inj y back));
            ends = λ σ vss passed.
                ∥∥₁_elim (returns 𝓛 𝓜 𝓡 T.signature ρ κs bounds L a R.one b σ vss passed) ∥∥₁_prop (λ t.
                ∥∥₁_elim (returns 𝓛 𝓜 𝓡 T.signature ρ κs bounds L a R.other b' σ vss passed) ∥∥₁_prop (λ u.
                absurd
                (R.differ
                (inj R.one R.other (ap (λ y. y.0) (ends-one ρ (flat (types_at T.signature.params κs) vss) σ (L.lowered R.one, t.0) (L.lowered R.other, u.0) t.1 u.1))))));
          }

      pub answered : Answered 𝓛 𝓜 T.signature ρ κs bounds L a (λ y. R.read y ≡ x)
      answered = by_known (R.known x)
