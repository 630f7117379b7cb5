-- The number that a record of symbols tells is that of its answer.
-- Assumes nothing.
use Prim.Native.Nat.{ℕ}
use mathlib.Core.Path.{◌≡◌, refl}
use Rattle.numbers.specs.Outcome.{Outcome, gives, refuses}
use Rattle.symbols.specs.Text.{Own, no_list, listed, Text, unknown, own, system}
use Rattle.records.specs.SymbolWords.{text_words, symbols_words}
use Rattle.records.specs.Buffer.{number_of, number_in}

pub text_number : (id : ℕ) (o : Outcome Text) → number_in (text_words id o) ≡ number_of o
unfolding number_in
text_number id (gives unknown) = refl
text_number id (gives (own a b)) = refl
text_number id (gives (system a b)) = refl
text_number id (refuses n p) = refl

pub symbols_number : (o : Outcome Own) → number_in (symbols_words o) ≡ number_of o
unfolding number_in
symbols_number (gives no_list) = refl
symbols_number (gives (listed a b)) = refl
symbols_number (refuses n p) = refl
