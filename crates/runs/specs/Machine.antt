-- What it is for the machine to return an answer to a call of a function, and for every call to end, in the words of the logic. It cites nothing of any crate.
-- Assumes nothing.
use seplogic.Ra.Ura.{Ura}
use prog.Memory.{Memory}
use prog.Model.{Model}
use prog.Routine.{Routine, ends}
use types.Logic.{Logic}
use contract.Lifetimes.{Lfts, Shares, AllOutlive}
use contract.Adequate.{Satisfies}
use denote.Param.Laws.{Told}
use denote.RattleType.{RattleType, flat}
use denote.Signature.{Signature, type_at, types_at}
use denote.Lowered.{Lowered}
use denote.Triple.Entry.{Args, Vals, Res, on_entry}

-- what a type's machine values are, for the results that have values of the type as parts
abbrev pub told : {R : RattleType} → Lowered R → Told R
told L = record { val = L.lowered; tells = L.val_is }

-- S is the function's signature and ρ its routine, and L says the machine's value of each result
module _ {M : Type 1} {𝓤 : Ura M} (𝓛 : Logic 𝓤) (𝓜 : Model 𝓤 𝓛.H) (S : Signature) (ρ : Routine) (κs : Lfts S.lifetimes)
    (bounds : AllOutlive S.lifetimes S.outlives κs) (L : Lowered (type_at S.result κs)) where
  open 𝓛 use {H}

  -- in the memory σ the arguments a are passed to a call, as the machine values vss
  abbrev pub Passed : Memory → Args S κs → Vals S κs → Type 1
  Passed σ a vss = (qs : Shares S.lifetimes) × Satisfies 𝓤 H 𝓜 σ (on_entry 𝓛 S κs qs a vss)

  -- the machine, called for the function with the arguments a, in some memory in which they are passed, returned r
  abbrev pub Returned : Args S κs → Res S κs → Type 1
  Returned a r =
      (σ : Memory) × (σ' : Memory) × (vss : Vals S κs) × Passed σ a vss × ends ρ (flat (types_at S.params κs) vss) σ (L.lowered r) σ'

  -- in every memory in which the arguments a are passed, a call of the function ends, and returns a result of which P holds
  abbrev pub Ends : Args S κs → (Res S κs → Type 0) → Type 1
  Ends a P =
      (σ : Memory) (vss : Vals S κs) → Passed σ a vss
      → ∥ ((r : Res S κs) × P r × (σ' : Memory) × ends ρ (flat (types_at S.params κs) vss) σ (L.lowered r) σ') ∥₁
