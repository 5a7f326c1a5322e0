use Rattle.std.proofs.Common.{◌≡◌, true, map}
use Rattle.object_program.specs.Valid.{is_among}
use Rattle.program_syntax.proofs.Directories.{ArePlaces-again, names-push}
use Rattle.program_syntax.proofs.directory.Directory.with_again.Goals as goal

pub invariant_of-self : goal.invariant_of-self
invariant_of-self g c =
    let items = c.self.inside.items.items in
    let there : is_among (map g.T.Named.name_of items) c.args.name ≡ true = rw c.self.view_is c.requires.there in
    rw (names-push g.T.Named.name_of items c.push.new.self.items c.args.item c.in-Ok.ensures.items, ← c.requires.name)
    (ArePlaces-again (map g.T.Named.name_of items) c.args.name c.self.inside.places c.self.invariant c.bytes.ensures.name there)
