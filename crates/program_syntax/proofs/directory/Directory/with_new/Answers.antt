use Rattle.std.proofs.Common.{◌≡◌, false, map, length, ◌∙◌, sym, vec_len, arith, Some}
use Rattle.std.specs.BTreeMap.{Updates}
use Rattle.std.specs.Cmp.Lexicographic.{slice_cmp}
use Rattle.std.specs.Ordering.{nat_cmp}
use Rattle.std.proofs.lemmas.List.{length-map}
use Rattle.object_program.specs.Valid.{is_among}
use Rattle.program_syntax.proofs.Directories.{ArePlaces-new, names-push}
use Rattle.program_syntax.proofs.directory.Directory.with_new.Goals as goal

pub invariant_of-self : goal.invariant_of-self
invariant_of-self g c =
    let items = c.self.inside.items.items in
    let names = map g.T.Named.name_of items in
    let new : is_among names c.args.name ≡ false = rw c.self.view_is c.requires.new in
    let counted : vec_len c.self.inside.items ≡ length items = omega (arith, c.self.inside.items.ok.0) in
    let place : c.len-place.result ≡ length names = c.len-place.ensures ∙ counted ∙ sym (length-map items g.T.Named.name_of) in
    let updates : Updates (slice_cmp nat_cmp) c.self.inside.places c.insert.new.self c.args.name (Some (length names)) = rw (← place) c.in-Ok.ensures.updates in
    rw (names-push g.T.Named.name_of items c.push.new.self.items c.args.item c.in-Ok-push.ensures.items, ← c.requires.name)
    (ArePlaces-new names c.args.name c.self.inside.places c.insert.new.self c.self.invariant c.bytes.ensures.name new updates)
