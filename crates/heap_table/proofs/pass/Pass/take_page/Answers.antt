use Rattle.std.proofs.Common.{◌≡◌, ◌+◌, ◌^◌, ◌<◌, ◌≤◌, length, vec_capacity, vec_len, refl, ap, sym, ◌∙◌, subst, arith}
use Rattle.heap_table.specs.Kept.{Mirrors, limit_by}
use Rattle.heap_table.specs.declared.mirror.Mirror.{Mirror}
use Rattle.heap_table.specs.Seen.{PassSeen, page_of}
use Rattle.heap_table.proofs.Stamps.{short}
use Rattle.heap_table.proofs.AtLast.{limit_grows, page_is}
use Rattle.heap_table.proofs.pass.Pass.take_page.Goals as goal
use Rattle.heap_table.proofs.pass.Pass.take_page.Goals.{After-self}

all_few : (c : After-self) → c.self.inside.mirror.given + vec_len c.self.inside.mirror.log < 2 ^ 42
all_few c =
    let few = short _ _ c.requires.is_of in
    let known = ap (λ (p : PassSeen). length p.known.log) c.self.view_is in
    let whole = c.self.invariant.1.log.whole in
    omega (arith, few, known, whole)

pub turn_page-requires : goal.turn_page-requires
turn_page-requires c = all_few (goal.at.turn_page-requires c).After-self

pub invariant_of-self-inside : goal.invariant_of-self-inside
invariant_of-self-inside c =
    let m = c.self.inside.mirror in
    let turned = c.turn_page.ensures in
    let room : m.room ≤ vec_capacity c.args.empty =
    (let r = c.requires.room in let same = ap (λ (p : PassSeen). p.room) c.self.view_is in omega (arith, r, same)) in
    let none = ap vec_len turned.log in
    let count = ap length c.requires.empty in
    let few = all_few (goal.at.invariant_of-self-inside c).After-self in
    let given = turned.given in
    let all = m.whole in
    record {
      has_room = subst (λ v. m.room ≤ vec_capacity v) (sym turned.log) room;
      within = omega (arith, none, count);
      few = omega (arith, few, given);
      whole = omega (arith, none, count, given, all);
      ends = turned.end;
      low = m.low;
      owns = m.owns;
    }

-- the page as contracts see it
page_shown : (m : Mirror) (p : PassSeen) → Mirrors m p.known → p.limit ≡ limit_by m.keeps m.given m.room → p.room ≡ m.room
    → (q : PassSeen) → p ≡ q → m.log.items ≡ page_of q
page_shown m p f limit room q same = sym (page_is m p f limit room) ∙ ap page_of same

pub returns-clause-page : goal.returns-clause-page
returns-clause-page c =
    ap (λ v. v.items) c.turn_page.ensures.page ∙ page_shown c.self.inside.mirror _ c.self.invariant.1 refl refl _ c.self.view_is

pub returns-clause-pass : goal.returns-clause-pass
returns-clause-pass c =
    let m = c.self.inside.mirror in
    let page = page_shown m _ c.self.invariant.1 refl refl _ c.self.view_is in
    let grown = limit_grows m.keeps m.given m.room (vec_len m.log) _ m.log.items c.self.invariant.1.log (omega arith) in
    let limit = ap (λ n. limit_by m.keeps n m.room) c.turn_page.ensures.given ∙ grown ∙ λ i. (c.self.view_is i).limit + length (page i) in
    λ i. record (c.self.view_is i) { limit = limit i }
