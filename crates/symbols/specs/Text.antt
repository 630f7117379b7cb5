-- The change request A.7, "Text of a symbol": which table rules at a place, which list gives its own texts, and where the text of an ID lies.
-- Assumes nothing.
use Rattle.std.specs.Prelude.{ℕ, ◌-◌, Bool, true, false, not, List, [], ltb, eqb}
use Rattle.numbers.specs.Outcome.{Outcome, gives, refuses, pick, refuse_if, and_then, within}
use Rattle.numbers.specs.Bytes.{part}
use Rattle.framing.specs.Spans.{Spans}
use Rattle.framing.specs.Limits.{limited}
use Rattle.framing.specs.Answers.{Annotated, ident, finished, read_annotation}
use Rattle.bodies.specs.Utf8.{utf8}
use Rattle.stepping.specs.Items.{Item, finish, marker, value, field}
use Rattle.stepping.specs.declared.cursor.Rules.TheVariants.{Stream, Sequence, Fields}
use Rattle.values.specs.Scalars.{type_of, code_of}
use Rattle.symbols.specs.SystemTexts.{system_bytes, text_start, same_bytes}
use Rattle.symbols.specs.Turns.{Turn, over, further, step_all}

-- of this type, and not null
unfoldable pub is_typed : ℕ → Spans → Bool
is_typed type v = pick (eqb (code_of v) 15) false (eqb (type_of v) type)

-- ---- which table rules

abbrev pub is_three : Annotated → Outcome Bool
is_three (ident id next) = gives (eqb id 3)
is_three finished = gives false

-- "A top-level struct whose first annotation is 3 and that isn't null is a symbol table"; "of a non-null top-level struct [..] a first annotation that can't
-- be read gives its own refusal"
unfoldable pub is_table : List ℕ → Spans → Outcome Bool
is_table s v = pick (is_typed 13 v) (and_then (read_annotation s v.annotations v.descriptor) is_three) (gives false)

-- what rules: the system's texts alone, or the symbol table with this body
pub data Ruling : Type 0 where
  system_alone : Ruling
  table : ℕ → ℕ → Ruling

-- behind a value: itself, if it is a table
abbrev pub tabled : Spans → Ruling → Outcome Bool → Turn Ruling Ruling
tabled v r (gives t) = further v.end (pick t (table v.body v.end) r)
tabled v r (refuses number position) = over (refuses number position)

-- an item a..e: "until a step gives that place"; 50 "when a step passes it"; or it stands before the place, and `met` is made of it
abbrev pub towards : ℕ → ℕ → ℕ → Ruling → Turn Ruling Ruling → Turn Ruling Ruling
towards place a e r met = pick (eqb a place) (over (gives r)) (pick (ltb place e) (over (refuses 50 0)) met)

-- "the last table or marker before it rules"; a stream hands out no field
unfoldable pub on_stream : List ℕ → ℕ → Ruling → Item → Turn Ruling Ruling
on_stream s place r (finish p) = pick (eqb p place) (over (gives r)) (over (refuses 50 0))
on_stream s place r (marker a major minor e) = towards place a e r (further e system_alone)
on_stream s place r (value v) = towards place v.start v.end r (tabled v r (is_table s v))
on_stream s place r (field id a v) = over (refuses 50 0)

unfoldable pub ruling_at : ℕ → List ℕ → ℕ → ℕ → ℕ → Outcome Ruling
ruling_at limit s start end place = step_all limit Stream s (on_stream s place) start end system_alone

-- ---- which list gives its own texts

pub data Own : Type 0 where
  no_list : Own
  listed : ℕ → ℕ → Own

-- "one that isn't a non-null list, means no own texts"
unfoldable pub list_of : Spans → Own
list_of v = pick (is_typed 11 v) (listed v.body v.end) no_list

-- of the table's fields so far: whether a field 7 was among them, and the list that it is
pub record SymbolsField : Type 0 where
  pub met : Bool
  pub list : Own

-- 64 "a field 6 (imports), at its field ID"; 65 "a second field 7, at its field ID"; a struct's body hands out fields alone
unfoldable pub on_field : SymbolsField → Item → Turn SymbolsField Own
on_field y (finish p) = over (gives y.list)
on_field y (marker a major minor e) = over (gives y.list)
on_field y (value v) = over (gives y.list)
on_field y (field id a v) =
    pick (eqb id 6) (over (refuses 64 a))
    (pick (eqb id 7)
    (pick y.met (over (refuses 65 a)) (further v.end (record { met = true; list = list_of v })))
    (further v.end y))

-- "then the ruling table whole"; "No field 7 [..] means no own texts"
unfoldable pub own_list : ℕ → List ℕ → Ruling → Outcome Own
own_list limit s system_alone = gives no_list
own_list limit s (table b e) = step_all limit Fields s on_field b e (record { met = false; list = no_list })

-- ---- the text of an ID

-- "a part of the map or of the lent system text, with a word for 'unknown'"
pub data Text : Type 0 where
  unknown : Text
  own : ℕ → ℕ → Text
  system : ℕ → ℕ → Text

-- of an ID below 10: "'unknown' for ID 0"
unfoldable pub system_text : ℕ → Text
system_text id = pick (eqb id 0) unknown (system (text_start (id - 1)) (text_start id))

-- "an entry that isn't a non-null string has unknown text"; "An own text with bad UTF-8 gives 36 when it is looked up"
unfoldable pub entry_text : List ℕ → Spans → Outcome Text
entry_text s v =
    pick (is_typed 8 v)
    (refuse_if (not (utf8 s v.body v.end)) 36 v.descriptor (gives (own v.body v.end))) (gives unknown)

-- with n entries still before the one that is looked up; "'unknown' [..] for IDs past the table"; a list's body hands out values alone
unfoldable pub on_entry : List ℕ → ℕ → Item → Turn ℕ Text
on_entry s n (finish p) = over (gives unknown)
on_entry s n (marker a major minor e) = over (gives unknown)
on_entry s n (value v) = pick (eqb n 0) (over (entry_text s v)) (further v.end (n - 1))
on_entry s n (field id a v) = over (gives unknown)

-- "then its list to the entry"
unfoldable pub own_text : ℕ → List ℕ → ℕ → Own → Outcome Text
own_text limit s n no_list = gives unknown
own_text limit s n (listed b e) = step_all limit Sequence s (on_entry s) b e n

-- "Its field 7, a list, gives the texts of IDs from 10 up, in order"
unfoldable pub text_in : ℕ → List ℕ → ℕ → Own → Outcome Text
text_in limit s id list = pick (ltb id 10) (gives (system_text id)) (own_text limit s (id - 10) list)

-- ---- the entries

-- 66 "a lent system text that isn't those nine joined, tested before all else, position 0"; then 68
abbrev pub lent_right : {A : Type 0} → ℕ → List ℕ → Outcome A → Outcome A
lent_right limit lent o = refuse_if (not (same_bytes lent system_bytes)) 66 0 (limited limit o)

-- the list of the table that rules at a place in the stream start..end: 50 "before any step if outside the stream"
unfoldable pub symbols_at : ℕ → List ℕ → List ℕ → ℕ → ℕ → ℕ → Outcome Own
symbols_at limit s lent start end place =
    lent_right limit lent
    (within s start place (within s place end (and_then (ruling_at limit s start end place) (own_list limit s))))

-- "A lookup takes an ID and a top-level item's start or the stream's end"
unfoldable pub text_of : ℕ → List ℕ → List ℕ → ℕ → ℕ → ℕ → ℕ → Outcome Text
text_of limit s lent start end place id = and_then (symbols_at limit s lent start end place) (text_in limit s id)

-- the same of the list with the body start..end, which `symbols_at` found before
unfoldable pub list_text : ℕ → List ℕ → List ℕ → ℕ → ℕ → ℕ → Outcome Text
list_text limit s lent start end id = lent_right limit lent (within s start end (text_in limit s id (listed start end)))

-- the text's bytes: "empty where" there is none
abbrev pub text_bytes : List ℕ → List ℕ → Outcome Text → List ℕ
text_bytes s lent (gives unknown) = []
text_bytes s lent (gives (own a b)) = part s a b
text_bytes s lent (gives (system a b)) = part lent a b
text_bytes s lent (refuses number position) = []

unfoldable pub text_part : ℕ → List ℕ → List ℕ → ℕ → ℕ → ℕ → ℕ → List ℕ
text_part limit s lent start end place id = text_bytes s lent (text_of limit s lent start end place id)
