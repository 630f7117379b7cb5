-- What a test of numbers says, as the tactics are to have it.
-- Assumes nothing.
use borrow.Author.Tests.{eq-eqb, ne_eqb, lt-ltb, le-ltb}

pub ruleset tests = (eq-eqb, ne_eqb, lt-ltb, le-ltb)
