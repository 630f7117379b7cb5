-- The words of the records of the change request A.7: a symbol's text, and the list of the table that rules.
-- Assumes nothing.
use Rattle.std.specs.Prelude.{ℕ, ◌-◌, List, [], ◌∷◌}
use Rattle.numbers.specs.Outcome.{Outcome, gives, refuses}
use Rattle.symbols.specs.Text.{Own, no_list, listed, Text, unknown, own, system}
use Rattle.records.specs.Words.{refused_words}

-- the kind, a word on the span, the span a..b, an ID and the span's length
abbrev pub span_words : ℕ → ℕ → ℕ → ℕ → ℕ → List ℕ
span_words kind what a b id = kind ∷ what ∷ 0 ∷ 0 ∷ 0 ∷ a ∷ b ∷ id ∷ (b - a) ∷ []

-- kind 13: where the text lies, 0 nowhere ("a word for 'unknown'"), 1 in the map, 2 in the lent system text
abbrev pub text_words : ℕ → Outcome Text → List ℕ
text_words id (gives unknown) = span_words 13 0 0 0 id
text_words id (gives (own a b)) = span_words 13 1 a b id
text_words id (gives (system a b)) = span_words 13 2 a b id
text_words id (refuses number position) = refused_words number position

-- kind 19: 1 where a list rules, with its body
abbrev pub symbols_words : Outcome Own → List ℕ
symbols_words (gives no_list) = span_words 19 0 0 0 0
symbols_words (gives (listed a b)) = span_words 19 1 a b 0
symbols_words (refuses number position) = refused_words number position
