-- What each private reading says in the terms of the definitions.
-- Assumes nothing.
use Rattle.std.specs.Prelude.{ℕ, Bool, true, false, ltb, eqb, Result, Option, Some, None}
use Rattle.numbers.specs.Outcome.{Outcome, gives, refuses, pick}
use Rattle.numbers.specs.declared.refusal.Refusal.{Refusal}
use Rattle.numbers.specs.Read.{outcome}
use Rattle.values.specs.declared.value.Span.{Span}
use Rattle.symbols.specs.Text.{Ruling, system_alone, table, SymbolsField, no_list}
use Rattle.symbols.specs.Read.{own_read}

abbrev pub table_read : Result Bool Refusal → Outcome Bool
table_read = outcome (λ t. t)

abbrev pub ruling_read : Option Span → Ruling
ruling_read None = system_alone
ruling_read (Some b) = table b.start b.end

abbrev pub ruled_read : Result (Option Span) Refusal → Outcome Ruling
ruled_read = outcome ruling_read

-- whether the item a..e is the one at a place: 50 where it stands inside it
abbrev pub at_place : ℕ → ℕ → ℕ → Outcome Bool
at_place place a e = pick (eqb a place) (gives true) (pick (ltb place e) (refuses 50 0) (gives false))

-- of a table's fields so far: no field 7, or one and the list that it is
abbrev pub field_read : Option (Option Span) → SymbolsField
field_read None = record { met = false; list = no_list }
field_read (Some l) = record { met = true; list = own_read l }
