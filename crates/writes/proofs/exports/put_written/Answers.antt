-- `put_written` meets its contract: where there is no room for the record nothing is written, and else it is put with what the closure answers.
use mathlib.Core.Path.{refl}
use Rattle.writing.specs.Read.{written_read}
use Rattle.records.proofs.Numbers.{put_answer, bytes_number}
use Rattle.writes.specs.Writes.{write_words}
use Rattle.writes.proofs.Writing.{no_record, wrote}
use Rattle.writes.proofs.exports.put_written.Goals as goal

pub returns-then-out-lt-RECORD_SIZE : goal.returns-then-out-lt-RECORD_SIZE
returns-then-out-lt-RECORD_SIZE g c = λ o bytes met. no_record o bytes c.args.to.now c.args.out.now _ c.number.ensures c.if-out-lt-RECORD_SIZE.true

pub returns : goal.returns
returns g c = λ o bytes met.
    let m = met c.write.result _ (record { shown = _; shows = refl; left = _; met = c.write.ensures; leaves = refl }) in
    let p = put_answer 9 (write_words (written_read c.write.result)) c.args.out.now (written_read c.write.result) (bytes_number 17 (written_read c.write.result)) c.bytes_words.ensures c.put_record.ensures in
    wrote o bytes c.args.to.now _ c.args.out.now _ _ c.if-out-lt-RECORD_SIZE.false m.0 m.1 p.value p.out_after
