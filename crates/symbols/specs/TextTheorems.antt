-- What holds of the lookup: where a text lies and what it is; that its steps are the reader's own; that the two stages are the whole. The proofs are in
-- proofs/Told.antt, proofs/Stages.antt and proofs/Runs.antt.
-- Assumes nothing.
use Rattle.std.specs.Prelude.{ℕ, ◌+◌, ◌-◌, ◌≤◌, ◌<◌, ◌≡◌, true, false, List, [], ◌∷◌, length, get_or}
use Rattle.numbers.specs.Outcome.{Outcome, gives, pick, and_then}
use Rattle.numbers.specs.Bytes.{part}
use Rattle.bodies.specs.Utf8.{utf8}
use Rattle.stepping.specs.Items.{Item, finish, marker, value, field}
use Rattle.stepping.specs.Answers.{Stepped, answer_at}
use Rattle.stepping.specs.Leaving.{is_last}
use Rattle.stepping.specs.Runs.{cursor, Answers, Run, items, last_end}
use Rattle.framing.specs.Spans.{Spans}
use Rattle.stepping.specs.declared.cursor.Rules.TheVariants.{Stream, Sequence, Fields}
use Rattle.symbols.specs.SystemTexts.{system_texts}
use Rattle.symbols.specs.Turns.{turned, step_until}
use Rattle.symbols.specs.Text.{is_table, Ruling, system_alone, table, on_stream, ruling_at, Own, no_list, listed, SymbolsField, on_field, own_list}
use Rattle.symbols.specs.Text.{Text, unknown, own, system, entry_text, on_entry, own_text, symbols_at, text_of, list_text}

-- what an answer says of the ID and of the bytes: a text of the map is of an ID from 10 up and is UTF-8, one of the lent system text is the ID's own of the
-- nine, and each lies in its slice
pub data TextTold (s lent : List ℕ) (id : ℕ) : Text → Type 0 where
  nowhere : TextTold s lent id unknown
  in_map : {a b : ℕ} → 10 ≤ id → a ≤ b → b ≤ length s → utf8 s a b ≡ true → TextTold s lent id (own a b)
  in_system : {a b : ℕ} → 1 ≤ id → id ≤ 9 → a ≤ b → b ≤ length lent → part lent a b ≡ get_or system_texts (id - 1) [] → TextTold s lent id (system a b)

abbrev pub TextsTold : Type 0
TextsTold =
    (limit : ℕ) (s lent : List ℕ) (start end place id : ℕ) (t : Text)
    → text_of limit s lent start end place id ≡ gives t → TextTold s lent id t

-- The body of a list that was found: empty at 0 where no list rules.
abbrev pub list_start : Own → ℕ
list_start no_list = 0
list_start (listed b e) = b

abbrev pub list_end : Own → ℕ
list_end no_list = 0
list_end (listed b e) = e

-- The two stages are the lookup: the list that rules is found once, and each ID's text under it is the ID's text at the place.
abbrev pub TwoStages : Type 0
TwoStages =
    (limit : ℕ) (s lent : List ℕ) (start end place id : ℕ)
    → and_then (symbols_at limit s lent start end place) (λ l. list_text limit s lent (list_start l) (list_end l) id)
    ≡ text_of limit s lent start end place id

-- Enough: with more steps allowed the same is answered, so that their number is no limit.
pub record Enough (limit : ℕ) (s : List ℕ) (at end k : ℕ) : Type 0 where
  pub stream : (place : ℕ) → step_until limit Stream s end (on_stream s place) k at system_alone ≡ ruling_at limit s at end place
  pub fields : step_until limit Fields s end on_field k at (record { met = false; list = no_list }) ≡ own_list limit s (table at end)
  pub entries : (n : ℕ) → step_until limit Sequence s end (on_entry s) k at n ≡ own_text limit s n (listed at end)

abbrev pub StepsEnough : Type 0
StepsEnough = (limit : ℕ) (s : List ℕ) (at end k : ℕ) → end - at < k → Enough limit s at end k

-- ---- the lookup's steps are the reader's own

-- the answers of calls that each hand an item out
pub data AllHanded : List Stepped → Type 0 where
  none_handed : AllHanded []
  also_handed : {r : Stepped} {rs : List Stepped} → is_last r.answer ≡ false → AllHanded rs → AllHanded (r ∷ rs)

-- "a top-level item's start or the stream's end"
abbrev pub item_start : Item → ℕ
item_start (finish p) = p
item_start (marker a major minor e) = a
item_start (value v) = v.start
item_start (field id a v) = a

-- "the last table or marker before it rules": behind these items, where r ruled before them; with no place and no step in it
abbrev pub ruled_behind : List ℕ → List Item → Ruling → Outcome Ruling
ruled_behind s [] r = gives r
ruled_behind s (finish p ∷ is) r = ruled_behind s is r
ruled_behind s (marker a major minor e ∷ is) r = ruled_behind s is system_alone
ruled_behind s (value v ∷ is) r = and_then (is_table s v) (λ t. ruled_behind s is (pick t (table v.body v.end) r))
ruled_behind s (field id a v ∷ is) r = ruled_behind s is r

-- Behind any run of the stream's steps whose next call gives the place, what rules is what those items make.
abbrev pub RulingOfRuns : Type 0
RulingOfRuns =
    (limit : ℕ) (s : List ℕ) (start end : ℕ) (rs : List Stepped) (i : Item)
    → Run (Answers limit Stream s) (cursor start end) rs → AllHanded rs → answer_at limit Stream s (last_end start (items rs)) end ≡ gives i
    → ruling_at limit s start end (item_start i) ≡ ruled_behind s (items rs) system_alone

-- And a place at which anything rules is one that such a run's next call gives.
pub record PlaceGiven (limit : ℕ) (s : List ℕ) (start end place : ℕ) : Type 0 where
  pub calls : List Stepped
  pub run : Run (Answers limit Stream s) (cursor start end) calls
  pub handed : AllHanded calls
  pub item : Item
  pub next : answer_at limit Stream s (last_end start (items calls)) end ≡ gives item
  pub begins : item_start item ≡ place

abbrev pub PlacesGiven : Type 0
PlacesGiven =
    (limit : ℕ) (s : List ℕ) (start end place : ℕ) (r : Ruling)
    → ruling_at limit s start end place ≡ gives r → PlaceGiven limit s start end place

-- what a table's fields make, one after the other
abbrev pub list_behind : List Item → SymbolsField → Outcome Own
list_behind [] y = gives y.list
list_behind (i ∷ is) y = turned (λ at z. list_behind is z) (on_field y i)

-- Of any run of a table's steps whose next call is the end, the list is what those fields make.
abbrev pub ListOfRuns : Type 0
ListOfRuns =
    (limit : ℕ) (s : List ℕ) (start end : ℕ) (rs : List Stepped)
    → Run (Answers limit Fields s) (cursor start end) rs → AllHanded rs → answer_at limit Fields s (last_end start (items rs)) end ≡ gives (finish end)
    → own_list limit s (table start end) ≡ list_behind (items rs) (record { met = false; list = no_list })

-- Behind any run of a list's steps: the entry that the next call hands out has as many before it as the run has calls; and where the next call is the end,
-- that many entries are all.
pub record EntryBehind (limit : ℕ) (s : List ℕ) (start end : ℕ) (rs : List Stepped) : Type 0 where
  pub entry : (v : Spans) → answer_at limit Sequence s (last_end start (items rs)) end ≡ gives (value v)
      → own_text limit s (length rs) (listed start end) ≡ entry_text s v
  pub past : (n : ℕ) → answer_at limit Sequence s (last_end start (items rs)) end ≡ gives (finish end)
      → own_text limit s (length rs + n) (listed start end) ≡ gives unknown

abbrev pub EntryOfRuns : Type 0
EntryOfRuns =
    (limit : ℕ) (s : List ℕ) (start end : ℕ) (rs : List Stepped)
    → Run (Answers limit Sequence s) (cursor start end) rs → AllHanded rs → EntryBehind limit s start end rs
