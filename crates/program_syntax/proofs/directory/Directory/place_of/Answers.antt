use Rattle.std.proofs.Common.{◌≡◌, false, map, ◌∙◌, arith}
use Rattle.std.proofs.lemmas.Grind.{common_steps}
use Rattle.object_program.specs.Name.{is_name}
use Rattle.program_syntax.specs.inner.Places.{place_from}
use Rattle.program_syntax.proofs.Directories.{not_among, place_is}
use Rattle.program_syntax.proofs.directory.Directory.place_of.Goals as goal

pub returns-in-None : goal.returns-in-None
returns-in-None g c =
    let other : is_name c.args.name.now ≡ false = grind (arith, common_steps) in
    rw (← c.self.view_is) (not_among (map g.T.Named.name_of c.self.inside.items.items) c.args.name.now c.self.invariant.are_names other)

pub returns-in-Some : goal.returns-in-Some
returns-in-Some g c =
    let name : c.in-Some.name ≡ c.args.name.now = grind (arith, common_steps) in
    let found : c.copied.result ≡ place_from 0 (map g.T.Named.name_of c.self.inside.items.items) c.in-Some.name =
    c.copied.ensures ∙ c.get.ensures.value ∙ c.self.invariant.found c.in-Some.name in
    rw (← c.self.view_is, ← name) (place_is (map g.T.Named.name_of c.self.inside.items.items) c.in-Some.name c.copied.result found)
