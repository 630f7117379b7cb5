-- The same of the program's own answers: what the machine returned to calls of the two lookups. The proof: `program-texts-stay` of proofs/ProgramTexts.antt. As a
-- function's statement is, it is for every model of the machine and every environment that has the functions' code.
-- Assumes nothing.
use Rattle.std.specs.Prelude.{ℕ, ◌≡◌, List, Option, Result}
use seplogic.Ra.Ura.{Ura}
use prog.Model.{Model}
use prog.Routine.{Env}
use prog.Wired.{Wired}
use types.Logic.{Logic}
use contract.Lifetimes.{Lfts}
use denote.Lowered.{Lowered}
use denote.Signature.{type_at}
use Rattle.std.proofs.option.Option.TheLaws as option-laws
use Rattle.std.proofs.result.Result.TheLaws as result-laws
use Rattle.std.specs.Borrow.{Bor}
use Rattle.numbers.specs.Outcome.{Outcome}
use Rattle.numbers.specs.declared.refusal.Refusal.{Refusal}
use Rattle.numbers.proofs.refusal.Refusal.TheLaws as refusal-laws
use Rattle.values.specs.declared.value.Span.{Span}
use Rattle.values.proofs.value.Span.TheLaws as span-laws
use Rattle.symbols.specs.Read.{symbols_read, text_read}
use Rattle.symbols.specs.Text.{Own, Text}
use Rattle.symbols.specs.declared.symbols.SymbolText.{SymbolText}
use Rattle.symbols.proofs.symbols.SymbolText.TheLaws as text-laws
use Rattle.symbols.specs.contracts.symbols.symbols_at as listing
use Rattle.symbols.proofs.symbols.symbols_at.Symbol as listing-symbol
use Rattle.symbols.specs.contracts.symbols.text_of as texting
use Rattle.symbols.proofs.symbols.text_of.Symbol as texting-symbol
use Rattle.runs.specs.Machine as machine
use Rattle.runs.specs.Machine.{told}
use Rattle.runs.specs.Reached.{Agree, ByRules}
use Rattle.runs.specs.Overwritten.{Site, Sites, Over}
use Rattle.overwriting.specs.TextsStay.{Quiet}

-- an environment that has the code of the two lookups, with the code of all that they name
pub record HasLookups (γ : Env) : Type 0 where
  pub list : Wired γ listing-symbol.code
  pub text : Wired γ texting-symbol.code

-- the machine's values of the results of the two, by those of their parts
abbrev pub list_lowers : (κs : Lfts 2) → Lowered (type_at listing.signature.result κs)
list_lowers κs =
    result-laws.lowers _ _ (option-laws.the_row_laws _ span-laws.the_row_laws) refusal-laws.the_row_laws
    (told (option-laws.lowers _ span-laws.the_row_laws (told span-laws.lowers))) (told refusal-laws.lowers)

abbrev pub text_lowers : (κs : Lfts 2) → Lowered (type_at texting.signature.result κs)
text_lowers κs =
    result-laws.lowers _ _ text-laws.the_row_laws refusal-laws.the_row_laws (told text-laws.lowers) (told refusal-laws.lowers)

-- γ says what each call means: the two are called in it by their names
module _ {M : Type 1} {𝓤 : Ura M} (𝓛 : Logic 𝓤) (𝓜 : Model 𝓤 𝓛.H) (γ : Env) (κs : Lfts 2) where
  -- o is what the machine's answer is read as: to the lookup of the list that rules at a place of the stream lo..hi of the map s, with the system's texts lent
  abbrev pub Lists : ℕ → Bor (List ℕ) → Bor (List ℕ) → ℕ → ℕ → ℕ → Outcome Own → Type 1
  Lists limit s lent lo hi place o =
      (x : Result (Option Span) Refusal)
      × machine.Returned 𝓛 𝓜 listing.signature (γ listing-symbol.name) κs tt (list_lowers κs) (s, (lent, (lo, (hi, (place, (limit, tt)))))) x
      × (symbols_read x ≡ o)

  -- and to that of an ID's text there
  abbrev pub Texts : ℕ → Bor (List ℕ) → Bor (List ℕ) → ℕ → ℕ → ℕ → ℕ → Outcome Text → Type 1
  Texts limit s lent lo hi place id o =
      (x : Result SymbolText Refusal)
      × machine.Returned 𝓛 𝓜 texting.signature (γ texting-symbol.name) κs tt (text_lowers κs) (s, (lent, (lo, (hi, (place, (id, (limit, tt))))))) x
      × (text_read x ≡ o)

  -- The answers on the one map are those on the other, where the same system's texts are lent.
  pub record SameLookups (limit : ℕ) (s s' lent lent' : Bor (List ℕ)) (lo₀ hi₀ place : ℕ) : Type 1 where
    pub lists : (o o' : Outcome Own) → Lists limit s lent lo₀ hi₀ place o → Lists limit s' lent' lo₀ hi₀ place o' → o ≡ o'
    pub texts : (id : ℕ) (o o' : Outcome Text) → Texts limit s lent lo₀ hi₀ place id o → Texts limit s' lent' lo₀ hi₀ place id o' → o ≡ o'

  abbrev pub ProgramTextsStay : Type 1
  ProgramTextsStay =
      (limit : ℕ) (s s' lent lent' : Bor (List ℕ)) → lent.now ≡ lent'.now → (lo₀ hi₀ : ℕ) (Chosen : Site → Type 0)
      → Sites limit s.now (ByRules limit s.now).step lo₀ hi₀ Chosen → Agree s.now s'.now (Over Chosen)
      → (place : ℕ) → Quiet limit s.now s'.now lo₀ hi₀ Chosen place → SameLookups limit s s' lent lent' lo₀ hi₀ place
