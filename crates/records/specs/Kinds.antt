-- The numbers in a record's words that say what it is, as the code's enums name them.
-- Assumes nothing.
use Rattle.std.specs.Prelude.{ℕ}
use Rattle.records.specs.declared.kind.RecordKind.{RecordKind}
use Rattle.records.specs.declared.kind.RecordKind.TheVariants.{End, Marker, Value, Field, More, Annotation, Body, Scalar, Number, Decimal, Timestamp, Refused, Check, PackedSize, Packed, Written, Text, Symbols}
use Rattle.records.specs.declared.words.What.{What}
use Rattle.records.specs.declared.words.What.TheVariants.{Null, Bool, Int, Float, Decimal as WhatDecimal, Timestamp as WhatTimestamp, Symbol, Text as WhatText, Clob, Blob, Container}

-- word 0
abbrev pub kind_word : RecordKind → ℕ
kind_word End = 0
kind_word Marker = 1
kind_word Value = 2
kind_word Field = 3
kind_word More = 4
kind_word Annotation = 5
kind_word Body = 6
kind_word Scalar = 7
kind_word Number = 8
kind_word Decimal = 10
kind_word Timestamp = 11
kind_word Refused = 9
kind_word Check = 12
kind_word PackedSize = 15
kind_word Packed = 16
kind_word Written = 17
kind_word Text = 13
kind_word Symbols = 19

-- word 3 of a scalar's record
abbrev pub what_word : What → ℕ
what_word Null = 0
what_word Bool = 1
what_word Int = 2
what_word Float = 3
what_word WhatDecimal = 4
what_word WhatTimestamp = 5
what_word Symbol = 6
what_word WhatText = 7
what_word Clob = 8
what_word Blob = 9
what_word Container = 10
