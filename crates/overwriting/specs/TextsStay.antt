-- The change request A.14, its last sentence: "An ID's text may move only at values, markers or the stream's end after an overwritten one that, before or after
-- the change, is a symbol table, lies in one, or is a top-level struct whose first annotation can't be read." The proof: `texts-stay` of proofs/TextsStay.antt.
-- Assumes nothing.
use Rattle.std.specs.Prelude.{ℕ, ◌≤◌, ◌≡◌, true, ◌⊎◌, List}
use Rattle.numbers.specs.Outcome.{gives, refuses}
use Rattle.framing.specs.Spans.{Spans}
use Rattle.stepping.specs.Items.{value}
use Rattle.stepping.specs.declared.cursor.Rules.TheVariants.{Stream}
use Rattle.symbols.specs.Text.{is_table, symbols_at, text_of, text_part}
use Rattle.runs.specs.Reached.{Handed, Agree, ByRules}
use Rattle.runs.specs.Overwritten.{Site, value_site, Sites, Over}

-- a top-level value: one that a run on the stream lo₀..hi₀ of the map s hands out
abbrev pub TopLevel : ℕ → List ℕ → ℕ → ℕ → Spans → Type 0
TopLevel limit s lo₀ hi₀ v = Handed (ByRules limit s).step lo₀ hi₀ Stream lo₀ hi₀ (value v)

-- the overwritten one x "is a symbol table, lies in one, or is a top-level struct whose first annotation can't be read", on the map s
pub data Tells (limit : ℕ) (s : List ℕ) (lo₀ hi₀ : ℕ) (x : Site) : Type 0 where
  in_table : {v : Spans} → TopLevel limit s lo₀ hi₀ v → is_table s v ≡ gives true → v.start ≤ x.start → x.end ≤ v.end → Tells limit s lo₀ hi₀ x
  unreadable : {v : Spans} {number position : ℕ}
      → TopLevel limit s lo₀ hi₀ v → is_table s v ≡ refuses number position → x ≡ value_site (value v) v → Tells limit s lo₀ hi₀ x

-- the place is not "after an overwritten one" that is so "before or after the change"
abbrev pub Quiet : ℕ → List ℕ → List ℕ → ℕ → ℕ → (Site → Type 0) → ℕ → Type 0
Quiet limit s s' lo₀ hi₀ Chosen place =
    (x : Site) → Chosen x → x.end ≤ place → Tells limit s lo₀ hi₀ x ⊎ Tells limit s' lo₀ hi₀ x → ⊥

-- At such a place, and at whatever number is no place, each lookup is as it was: the list of the table that rules, an ID's text, and that text's bytes.
pub record SameTexts (limit : ℕ) (s s' lent : List ℕ) (lo₀ hi₀ place : ℕ) : Type 0 where
  pub list : symbols_at limit s lent lo₀ hi₀ place ≡ symbols_at limit s' lent lo₀ hi₀ place
  pub text : (id : ℕ) → text_of limit s lent lo₀ hi₀ place id ≡ text_of limit s' lent lo₀ hi₀ place id
  pub bytes : (id : ℕ) → text_part limit s lent lo₀ hi₀ place id ≡ text_part limit s' lent lo₀ hi₀ place id

abbrev pub TextsStay : Type 1
TextsStay =
    (limit : ℕ) (s s' lent : List ℕ) (lo₀ hi₀ : ℕ) (Chosen : Site → Type 0)
    → Sites limit s (ByRules limit s).step lo₀ hi₀ Chosen → Agree s s' (Over Chosen)
    → (place : ℕ) → Quiet limit s s' lo₀ hi₀ Chosen place → SameTexts limit s s' lent lo₀ hi₀ place
