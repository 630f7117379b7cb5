-- `put_words` meets its contract: the words so far stand in front of what the buffer held behind them.
use Rattle.std.proofs.Common.{◌≡◌, ◌*◌, ◌++◌, take, drop}
use Rattle.records.specs.Buffer.{word_size, bytes_of}
use Rattle.records.proofs.buffer.put_words.Given as goal

abbrev pub invariant-loop-i : goal.invariant-loop-i
invariant-loop-i l = l.out ≡ bytes_of (take l.i l.words) ++ drop (l.i * word_size) l.initial.out
