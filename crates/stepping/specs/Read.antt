-- What each type of this layer says in the scope paper's terms.
-- Assumes nothing.
use Rattle.std.specs.Prelude.{Option, Some, None, Result}
use Rattle.numbers.specs.Outcome.{Outcome}
use Rattle.numbers.specs.Answers.{Unsigned}
use Rattle.numbers.specs.ShortVarUInt.{ShortUnsigned, short, none}
use Rattle.numbers.specs.Read.{outcome}
use Rattle.numbers.specs.declared.refusal.Refusal.{Refusal}
use Rattle.framing.specs.Read.{spans_of}
use Rattle.stepping.specs.Items.{Item, finish, marker, value, field}
use Rattle.stepping.specs.Answers.{Stepped}
use Rattle.stepping.specs.declared.cursor.Item.{Item as ItemEnum}
use Rattle.stepping.specs.declared.cursor.Item.TheVariants.{End, Marker, Value, Field}
use Rattle.stepping.specs.declared.cursor.Name.{Name}
use Rattle.stepping.specs.declared.cursor.Step.{Step}

-- an item's places
abbrev pub places_of : ItemEnum → Item
places_of (End p) = finish p
places_of (Marker a major minor e) = marker a major minor e
places_of (Value v) = value (spans_of v)
places_of (Field id a v) = field id a (spans_of v)

abbrev pub item_read : Result ItemEnum Refusal → Outcome Item
item_read = outcome places_of

-- a name's ID, and where it ends
abbrev pub name_of : Name → Unsigned
name_of n = record { value = n.id; next = n.next }

abbrev pub named_read : Result Name Refusal → Outcome Unsigned
named_read = outcome name_of

-- a short name, where one is said
abbrev pub short_name_read : Option Name → ShortUnsigned
short_name_read (Some n) = short (name_of n)
short_name_read None = none

abbrev pub step_read : Step → Stepped
step_read r = record { answer = item_read r.item; next = r.next }
