use Rattle.std.proofs.Common.{◌≡◌, nat_lt, false, length, sym, ap, ◌∙◌, arith}
use Rattle.std.proofs.lemmas.Bool.Decides.{nat_tests}
use Rattle.state_search.specs.Found.{Keys}
use Rattle.state_search.specs.inner.Among.{is_among}
use Rattle.state_search.proofs.Inserts.{among_mapped, length_mapped}
use Rattle.state_search.proofs.found.Found.has_room.Goals as goal

pub returns-else-len-most : goal.returns-else-len-most
returns-else-len-most c =
    let among : is_among c.args.self.now.keys c.args.key.now.items ≡ c.contains.result =
    ap (λ (f : Keys). is_among f.keys c.args.key.now.items) (sym c.self.view_is)
    ∙ among_mapped (λ v. v.items) c.self.inside.keys.keys c.args.key.now.items ∙ sym c.contains.ensures in
    let count : length c.args.self.now.keys ≡ c.len.result =
    ap (λ (f : Keys). length f.keys) (sym c.self.view_is) ∙ length_mapped (λ v. v.items) c.self.inside.keys.keys ∙ sym c.len.ensures.len in
    let full : nat_lt (length c.args.self.now.keys) c.args.most ≡ false = grind (arith, nat_tests, count, c.if-len-most.false) in
    rw full (sym among)
