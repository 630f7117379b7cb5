-- `program-texts-stay`: the machine's own answers to the two lookups are those that the definitions give, by the functions' theorems; then `texts-stay`.
-- Assumes nothing.
use Prim.Native.Nat.{ℕ}
use mathlib.Core.Path.{◌≡◌, refl, ◌∙◌, sym, ap}
use mathlib.Core.List.{List, [], ◌∷◌}
use seplogic.Ra.Ura.{Ura}
use base.Logic.{emp, id⊢}
use mir.Val.{Val}
use prog.Model.{Model}
use types.Logic.{Logic}
use contract.Monad.{fact}
use contract.Lifetimes.{Lfts}
use contract.Running.{Running, strict}
use denote.Ref.{Bor}
use Rattle.std.specs.Prelude.{Option, None, Some, Result, Ok, Err}
use Rattle.numbers.specs.Outcome.{Outcome}
use Rattle.numbers.specs.declared.refusal.Refusal.{Refusal}
use Rattle.values.specs.declared.value.Span.{Span}
use Rattle.symbols.specs.Read.{own_read, symbols_read, text_told, text_read}
use Rattle.symbols.specs.Text.{Own, no_list, listed, Text, unknown, own, system, symbols_at, text_of}
use Rattle.symbols.specs.declared.symbols.SymbolText.{SymbolText}
use Rattle.symbols.specs.declared.symbols.SymbolText.TheVariants.{Unknown, Own as OwnText, System}
use Rattle.symbols.proofs.symbols.SymbolText.TheLaws as text-laws
use Rattle.symbols.specs.contracts.symbols.symbols_at as listing
use Rattle.symbols.proofs.symbols.symbols_at.Symbol as listing-symbol
use Rattle.symbols.proofs.symbols.symbols_at.Met as listing-met
use Rattle.symbols.specs.contracts.symbols.text_of as texting
use Rattle.symbols.proofs.symbols.text_of.Symbol as texting-symbol
use Rattle.symbols.proofs.symbols.text_of.Met as texting-met
use Rattle.runs.proofs.Machine as machine
use Rattle.runs.proofs.Machine.{Answered}
use Rattle.runs.proofs.Values.{num, field, choose, read_result, read_option, refusal_back, one_by}
use Rattle.runs.proofs.Entries.{read_span, span}
use Rattle.runs.proofs.Results.{told_by}
use Rattle.overwriting.specs.ProgramTexts.{list_lowers, text_lowers, HasLookups, Lists, Texts, ProgramTextsStay}
use Rattle.overwriting.proofs.TextsStay.{texts-stay}

-- ---- the list

read_list : Val → Result (Option Span) Refusal
read_list = read_result (read_option read_span)

module _ (κs : Lfts 2) where
  list_back : (x : Result (Option Span) Refusal) → read_list ((list_lowers κs).lowered x) ≡ x
  unfolding read_list
  list_back (Ok (Some b)) = refl
  list_back (Ok None) = refl
  list_back (Err e) = ap Err (refusal_back e)

own_of : Own → Option Span
own_of no_list = None
own_of (listed a b) = Some (span a b)

own_told : (o : Own) → own_read (own_of o) ≡ o
unfolding own_of
own_told no_list = refl
own_told (listed a b) = refl

own_back : (b : Option Span) → own_of (own_read b) ≡ b
unfolding own_of
own_back None = refl
own_back (Some b) = refl

-- ---- the text

read_text : Val → SymbolText
read_text v =
    choose (num (field 0 v)) (Unknown ∷ OwnText (read_span (field 1 v)) ∷ []) (System (read_span (field 1 v)))

text_back : (x : SymbolText) → read_text (text-laws.lowered x) ≡ x
unfolding read_text
text_back Unknown = refl
text_back (OwnText b) = refl
text_back (System b) = refl

module _ (κs : Lfts 2) where
  texting_back : (x : Result SymbolText Refusal) → read_result read_text ((text_lowers κs).lowered x) ≡ x
  texting_back (Ok x) = ap Ok (text_back x)
  texting_back (Err e) = ap Err (refusal_back e)

text-of : Text → SymbolText
text-of unknown = Unknown
text-of (own a b) = OwnText (span a b)
text-of (system a b) = System (span a b)

text_is : (x : Text) → text_told (text-of x) ≡ x
unfolding text-of
text_is unknown = refl
text_is (own a b) = refl
text_is (system a b) = refl

text-back : (x : SymbolText) → text-of (text_told x) ≡ x
unfolding text-of
text-back Unknown = refl
text-back (OwnText b) = refl
text-back (System b) = refl

module _ {M : Type 1} {𝓤 : Ura M} (𝓛 : Logic 𝓤) (𝓜 : Model 𝓤 𝓛.H) (𝓡 : Running 𝓤 𝓛.H 𝓜) (has : HasLookups 𝓡.env) (κs : Lfts 2) where
  open 𝓛 use {H}

  list_answers : (limit : ℕ) (s lent : Bor (List ℕ)) (lo hi place : ℕ) → Answered 𝓛 𝓜 listing.signature (𝓡.env listing-symbol.name) κs tt (list_lowers κs) (s, (lent, (lo, (hi, (place, (limit, tt)))))) (λ x. symbols_read x ≡ symbols_at limit s.now lent.now lo hi place)
  list_answers limit s lent lo hi place =
      machine.answered 𝓛 𝓜 𝓡 listing.ended (𝓡.env listing-symbol.name) (listing.clauses 𝓛 𝓜.mem 𝓡.returns) (listing-met.met 𝓤 𝓛 𝓜 (strict 𝓤 H 𝓜 𝓡) has.list) κs tt (list_lowers κs) (told_by own_read own_of own_told own_back) (one_by (list_lowers κs).lowered read_list (list_back κs))
      (s, (lent, (lo, (hi, (place, (limit, tt)))))) tt (symbols_at limit s.now lent.now lo hi place) (id⊢ 𝓤 (emp 𝓤)) (λ x ws. id⊢ 𝓤 (fact 𝓤 (symbols_read x ≡ symbols_at limit s.now lent.now lo hi place)))

  text_answers : (limit : ℕ) (s lent : Bor (List ℕ)) (lo hi place id : ℕ) → Answered 𝓛 𝓜 texting.signature (𝓡.env texting-symbol.name) κs tt (text_lowers κs) (s, (lent, (lo, (hi, (place, (id, (limit, tt))))))) (λ x. text_read x ≡ text_of limit s.now lent.now lo hi place id)
  text_answers limit s lent lo hi place id =
      machine.answered 𝓛 𝓜 𝓡 texting.ended (𝓡.env texting-symbol.name) (texting.clauses 𝓛 𝓜.mem 𝓡.returns) (texting-met.met 𝓤 𝓛 𝓜 (strict 𝓤 H 𝓜 𝓡) has.text) κs tt (text_lowers κs) (told_by text_told text-of text_is text-back) (one_by (text_lowers κs).lowered (read_result read_text) (texting_back κs))
      (s, (lent, (lo, (hi, (place, (id, (limit, tt))))))) tt (text_of limit s.now lent.now lo hi place id) (id⊢ 𝓤 (emp 𝓤)) (λ x ws. id⊢ 𝓤 (fact 𝓤 (text_read x ≡ text_of limit s.now lent.now lo hi place id)))

  list_by : (limit : ℕ) (s lent : Bor (List ℕ)) (lo hi place : ℕ) (o : Outcome Own) → Lists 𝓛 𝓜 𝓡.env κs limit s lent lo hi place o → o ≡ symbols_at limit s.now lent.now lo hi place
  list_by limit s lent lo hi place o p = sym p.2 ∙ (list_answers limit s lent lo hi place).returned p.0 p.1

  text_by : (limit : ℕ) (s lent : Bor (List ℕ)) (lo hi place id : ℕ) (o : Outcome Text) → Texts 𝓛 𝓜 𝓡.env κs limit s lent lo hi place id o → o ≡ text_of limit s.now lent.now lo hi place id
  text_by limit s lent lo hi place id o p = sym p.2 ∙ (text_answers limit s lent lo hi place id).returned p.0 p.1

  pub program-texts-stay : ProgramTextsStay 𝓛 𝓜 𝓡.env κs
  program-texts-stay limit s s' lent lent' e lo₀ hi₀ Chosen sites agree place quiet =
      let same = texts-stay limit s.now s'.now lent.now lo₀ hi₀ Chosen sites agree place quiet in
      record {
        lists = λ o o' a a'.
            list_by limit s lent lo₀ hi₀ place o a
            ∙ same.list
            ∙ ap (λ (l : List ℕ). symbols_at limit s'.now l lo₀ hi₀ place) e
            ∙ sym (list_by limit s' lent' lo₀ hi₀ place o' a');
        texts = λ id o o' a a'.
            text_by limit s lent lo₀ hi₀ place id o a
            ∙ same.text id
            ∙ ap (λ (l : List ℕ). text_of limit s'.now l lo₀ hi₀ place id) e
            ∙ sym (text_by limit s' lent' lo₀ hi₀ place id o' a');
      }
