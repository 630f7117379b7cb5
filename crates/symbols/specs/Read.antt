-- What each reading of this layer says in the change request's terms.
-- Assumes nothing.
use Rattle.std.specs.Prelude.{Result, Option, Some, None}
use Rattle.numbers.specs.Outcome.{Outcome}
use Rattle.numbers.specs.declared.refusal.Refusal.{Refusal}
use Rattle.numbers.specs.Read.{outcome}
use Rattle.values.specs.declared.value.Span.{Span}
use Rattle.symbols.specs.Text.{Own, no_list, listed, Text, unknown, own, system}
use Rattle.symbols.specs.declared.symbols.SymbolText.{SymbolText}
use Rattle.symbols.specs.declared.symbols.SymbolText.TheVariants.{Unknown, Own as OwnText, System}

abbrev pub own_read : Option Span → Own
own_read None = no_list
own_read (Some b) = listed b.start b.end

abbrev pub symbols_read : Result (Option Span) Refusal → Outcome Own
symbols_read = outcome own_read

abbrev pub text_told : SymbolText → Text
text_told Unknown = unknown
text_told (OwnText b) = own b.start b.end
text_told (System b) = system b.start b.end

abbrev pub text_read : Result SymbolText Refusal → Outcome Text
text_read = outcome text_told
