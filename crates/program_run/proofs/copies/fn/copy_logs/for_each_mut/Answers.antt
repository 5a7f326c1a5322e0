use Rattle.std.proofs.Common.{Some, refl, sym, ap, ◌∙◌}
use Rattle.std.proofs.lemmas.Option.{IfSome_then, slice_get_read}
use Rattle.program_run.proofs.copies.fn.copy_logs.for_each_mut.Goals as goal

pub bounds-logs-i : goal.bounds-logs-i
bounds-logs-i c = c.requires

pub returns : goal.returns
returns c =
    let at = slice_get_read c.captures.logs.now _ c.args.i c.index-logs-i.result refl c.requires c.index-logs-i.is in
    IfSome_then c.copy_log.result c.copy_log.ensures (λ copied is. at ∙ ap Some (sym is))
