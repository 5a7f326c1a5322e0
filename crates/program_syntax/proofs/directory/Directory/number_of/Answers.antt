use Rattle.std.proofs.Common.{◌≡◌, map, sym, ◌∙◌, ap, length, vec_len, arith}
use Rattle.std.proofs.lemmas.List.{length-map}
use Rattle.program_syntax.proofs.Directories.{number_among-absent}
use Rattle.program_syntax.proofs.directory.Directory.number_of.Goals as goal

pub returns-in-None : goal.returns-in-None
returns-in-None g c =
    let counted : vec_len c.self.inside.items ≡ length c.self.inside.items.items = omega (arith, c.self.inside.items.ok.0) in
    c.len.ensures ∙ counted ∙ ap length c.self.view_is ∙ sym (length-map c.args.self.now g.T.Named.name_of)
    ∙ sym (number_among-absent (map g.T.Named.name_of c.args.self.now) c.args.name.now c.in-None.ensures)
