use Rattle.std.proofs.Common.{◌≡◌, ◌==◌, false, sym, arith, length, map, vec_len}
use Rattle.std.proofs.lemmas.List.{length-map}
use Rattle.sync_source.specs.SourceView.{thread_text}
use Rattle.sync_syntax.specs.inner.State.{sync_before}
use Rattle.sync_syntax.proofs.Allowed.{allowed_read}
use Rattle.sync_syntax.proofs.reader.read_sync.Goals as goal

pub program-requires : goal.program-requires
program-requires c =
    let threads = c.in_ok-reader.reader.threads in
    let counted : length (map thread_text threads.items) ≡ vec_len threads = omega (arith, length-map threads.items thread_text, threads.ok.0) in
    let some : (length (map thread_text threads.items) == 0) ≡ false = rw counted (sym c.if-is_empty.ensures) in
    allowed_read c.args.bytes.now (sync_before c.in_ok-reader.reader) c.in_ok-reader.ensures.ok some
