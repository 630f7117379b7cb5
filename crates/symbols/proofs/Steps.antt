-- What one step makes of the rest, and that less of the part is left behind it, as the tactics are to have it beside what a test of numbers says.
-- Assumes nothing.
use Rattle.values.proofs.Tests.{tests}
use Rattle.symbols.proofs.Answered.{marker_less, value_less, field_less}
use Rattle.symbols.proofs.Handlers.{stream_step, field_step, entry_step, entry_passed}

pub ruleset on_the_stream = (tests, stream_step, marker_less, value_less)

pub ruleset in_a_table = (tests, field_step, field_less)

pub ruleset in_a_list = (tests, entry_step, entry_passed)
