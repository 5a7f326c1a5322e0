use Rattle.std.proofs.Common.{rules, ◌≡◌, ◌<◌, ◌||◌, nat_lt, ℕ, Bool, true, false, List, Option}
use Rattle.std.proofs.Common.{Some, if◌then◌else◌, length, slice_get, IsTrue, sym, ◌∙◌, subst}
use Rattle.std.proofs.lemmas.Bool.{false≢true}
use Rattle.std.proofs.lemmas.Option.{same_Some}
use Rattle.state_search.specs.Found.{Keys}
use Rattle.state_search.specs.declared.found.Origin.{Origin}
use Rattle.state_search.specs.inner.Added.{with_key}
use Rattle.state_search.specs.inner.Among.{is_among}
use Rattle.state_search.specs.Search.{Has, AreKeys}
use Rattle.state_search.specs.inner.Steps.{Keeps, GoesOn}
use Rattle.state_search.proofs.Inserts.{inserted}
use Rattle.state_search.proofs.Steps.{goes_on_added, keys_inserted}
use Rattle.state_search.proofs.breadth.try_choice.Goals as goal

abbrev from : ℕ → ℕ → Origin
from key choice = record { key = key; choice = choice }

-- where the answer is this, the keys became these
abbrev after : Keys → List ℕ → Origin → Bool → Keys
after f to origin there = if there then with_key f to origin else f

goes_on_by : (next : List ℕ → ℕ → Option (List ℕ)) (many most choice : ℕ) (key to : List ℕ) (f : Keys) (there : Bool)
    → slice_get f.keys f.gone ≡ Some key → choice < many → next key choice ≡ Some to → there ≡ (nat_lt (length f.keys) most || is_among f.keys to)
    → GoesOn next many most f (after f to (from f.gone choice) there)
goes_on_by next many most choice key to f true here lt leads room = goes_on_added next many most choice key to f here lt leads (sym room)
goes_on_by next many most choice key to f false here lt leads room = λ first u. u

kept_by : (f : Keys) (to : List ℕ) (origin : Origin) (there : Bool) → Keeps f.keys (after f to origin there).keys
kept_by f to origin true = (inserted f.keys to).kept
kept_by f to origin false = λ k x h. h

keys_by : (is_key : List ℕ → Type 0) (f : Keys) (to : List ℕ) (origin : Origin) (there : Bool) → AreKeys is_key f.keys → is_key to
    → AreKeys is_key (after f to origin there).keys
keys_by is_key f to origin true all here = keys_inserted is_key f.keys to all here
keys_by is_key f to origin false all here = all

has_by : (f : Keys) (to : List ℕ) (origin : Origin) (there : Bool) → IsTrue there → Has (after f to origin there).keys to
has_by f to origin true h = (inserted f.keys to).has
has_by f to origin false h = absurd (false≢true h)

pub returns-in_ok-there-in-Some-clause-goes_on : goal.returns-in_ok-there-in-Some-clause-goes_on
returns-in_ok-there-in-Some-clause-goes_on g c =
    let next = g.M.Moves.next c.args.moves.now in
    let many = g.M.Moves.choices c.args.moves.now in
    let leads : next c.args.key.now c.args.choice ≡ Some c.in-Some.to.items = search rules in
    subst (GoesOn next many c.args.most c.args.found.now) (sym c.in_ok-there-in-Some.ensures.added)
    (subst (λ (n : ℕ). GoesOn next many c.args.most c.args.found.now
    (after c.args.found.now c.in-Some.to.items (from n c.args.choice) c.in_ok-there-in-Some.there)) (sym c.gone.ensures)
    (goes_on_by next many c.args.most c.args.choice c.args.key.now c.in-Some.to.items c.args.found.now c.in_ok-there-in-Some.there c.requires.here
    c.requires.choice leads c.in_ok-there-in-Some.ensures.room))

pub returns-in_ok-there-in-Some-clause-keys : goal.returns-in_ok-there-in-Some-clause-keys
returns-in_ok-there-in-Some-clause-keys g c =
    let is_key = g.M.Moves.is_key c.next.new.self in
    let here : g.M.Moves.is_key c.args.moves.now c.in-Some.to.items = search rules in
    let all : AreKeys is_key c.args.found.now.keys = λ k x at. c.next.ensures.keys_stay x (c.requires.keys k x at) in
    subst (λ (f : Keys). AreKeys is_key f.keys) (sym c.in_ok-there-in-Some.ensures.added)
    (keys_by is_key c.args.found.now c.in-Some.to.items (from c.gone.result c.args.choice) c.in_ok-there-in-Some.there all
    (c.next.ensures.keys_stay c.in-Some.to.items here))

pub returns-in_ok-there-in-Some-clause-kept : goal.returns-in_ok-there-in-Some-clause-kept
returns-in_ok-there-in-Some-clause-kept g c =
    subst (λ (f : Keys). Keeps c.args.found.now.keys f.keys) (sym c.in_ok-there-in-Some.ensures.added)
    (kept_by c.args.found.now c.in-Some.to.items (from c.gone.result c.args.choice) c.in_ok-there-in-Some.there)

pub returns-in_ok-there-in-Some-clause-adds : goal.returns-in_ok-there-in-Some-clause-adds
returns-in_ok-there-in-Some-clause-adds g c = λ yes to e.
    let leads : g.M.Moves.next c.args.moves.now c.args.key.now c.args.choice ≡ Some c.in-Some.to.items = search rules in
    let same : c.in-Some.to.items ≡ to = same_Some c.in-Some.to.items to (sym leads ∙ e) in
    let has : Has (after c.args.found.now c.in-Some.to.items (from c.gone.result c.args.choice) c.in_ok-there-in-Some.there).keys to =
    subst (Has (after c.args.found.now c.in-Some.to.items (from c.gone.result c.args.choice) c.in_ok-there-in-Some.there).keys) same
    (has_by c.args.found.now c.in-Some.to.items (from c.gone.result c.args.choice) c.in_ok-there-in-Some.there yes) in
    subst (λ (f : Keys). Has f.keys to) (sym c.in_ok-there-in-Some.ensures.added) has
