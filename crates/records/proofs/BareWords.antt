-- `bare-words`: the numbers of a value without a wrapper behind its name are its record's words.
-- Assumes nothing.
use Prim.Native.Nat.{ℕ, ◌+◌, ◌-◌}
use native.Mathlib.Omega.{arith}
use mathlib.Core.Path.{◌≡◌, sym, ap, subst}
use mathlib.Core.List.{List, [], ◌∷◌}
use Rattle.numbers.specs.Outcome.{gives}
use Rattle.numbers.specs.Answers.{Unsigned}
use Rattle.framing.specs.ShortValue.{bare_spans}
use Rattle.stepping.specs.Names.{name_at, item_by}
use Rattle.stepping.specs.declared.cursor.Rules.{Rules}
use Rattle.stepping.specs.declared.cursor.Rules.TheVariants.{Stream, Sequence, Fields}
use Rattle.records.specs.Words.{words, bare_words}

module _ (s : List ℕ) (at end byte body size : ℕ) where
  long : body + size - body ≡ size
  long = omega arith

  -- behind a name
  abbrev Said : Rules → Unsigned → Type 0
  Said rules u =
      bare_words rules at u.value byte u.next body (body + size) size
      ≡ words (gives (item_by rules at u.value (bare_spans byte u.next body (body + size))))

  pub bare-words : (rules : Rules) (u : Unsigned) → name_at rules s at end ≡ gives u → Said rules u
  bare-words Stream u e =
      let q : record { value = 0; next = at } ≡ u = cc in
      subst (Said Stream) q (ap (λ (n : ℕ). 2 ∷ byte ∷ at ∷ at ∷ at ∷ body ∷ (body + size) ∷ 0 ∷ n ∷ []) (sym long))
  bare-words Sequence u e =
      let q : record { value = 0; next = at } ≡ u = cc in
      subst (Said Sequence) q (ap (λ (n : ℕ). 2 ∷ byte ∷ at ∷ at ∷ at ∷ body ∷ (body + size) ∷ 0 ∷ n ∷ []) (sym long))
  bare-words Fields u e =
      ap (λ (n : ℕ). 3 ∷ byte ∷ at ∷ u.next ∷ u.next ∷ body ∷ (body + size) ∷ u.value ∷ n ∷ []) (sym long)
