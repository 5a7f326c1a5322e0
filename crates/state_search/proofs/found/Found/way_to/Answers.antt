use Rattle.std.proofs.Common.{rules, ◌≡◌, ◌+◌, ℕ, List, [], ◌∷◌, ◌++◌, slice_get, Some, None, length, refl, sym, subst, arith}
use Rattle.std.proofs.lemmas.Option.{slice_get_past, slice_get_read}
use Rattle.state_search.specs.declared.found.Origin.{Origin}
use Rattle.state_search.specs.Found.{Keys}
use Rattle.state_search.proofs.Origins.{IsDown, down_step, down_first, down_past}
use Rattle.state_search.proofs.found.Found.way_to.Goals as goal
use Rattle.state_search.proofs.found.Found.way_to.Goals.{else-loop-test, then-loop-test+then-at-eq0, then-loop-test+else-at-eq0+in_default}

pub loop-preserved : goal.loop-preserved
loop-preserved c = λ next many first most u.
    let f = c.args.self.now in
    let origin = c.in-Some.origin.now in
    let inside : slice_get c.self.inside.origins.items c.loop.at ≡ Some origin =
    let l = c.in-Some.ensures.lookup in
    subst (λ (os : List Origin). slice_get os c.loop.at ≡ Some origin) c.deref.ensures.value
    (slice_get_read c.deref.result.now (length c.deref.result.now) c.loop.at origin refl l.3.0 l.1) in
    let its : slice_get f.origins c.loop.at ≡ Some origin = subst (λ (f : Keys). slice_get f.origins c.loop.at ≡ Some origin) c.self.view_is inside in
    let pushed : c.push.new.self.items ≡ c.loop.choices.items ++ origin.choice ∷ [] = search rules in
    let down = c.loop.invariant next many first most u in
    subst (λ (choices : List ℕ). IsDown next many f.keys c.args.number origin.key choices (c.loop.counter + 1)) (sym pushed)
    (down_step next many first most f u c.args.number c.loop.at c.loop.choices.items c.loop.counter down origin (omega (arith, c.if-at-eq0.false)) its)

pub returns : goal.returns
returns c = λ next many first most u.
    let f = c.args.self.now in
    let down = c.loop.invariant next many first most u in
    let at_first = down_first next many first most f u c.args.number c.loop.at c.loop.choices.items c.loop.counter down in
    elim c.loop-test.branch [
      | else-loop-test w ↦ at_first (omega (arith, w.loop-test.false, down.few))
      | then-loop-test+then-at-eq0 w ↦ at_first w.if-at-eq0.true
      | then-loop-test+else-at-eq0+in_default w ↦
          let inside : slice_get c.self.inside.origins.items c.loop.at ≡ None =
          let l = w.in_default.ensures.lookup in
          subst (λ (os : List Origin). slice_get os c.loop.at ≡ None) w.deref.ensures.value (slice_get_past w.deref.result.now c.loop.at l.3) in
          let past : slice_get f.origins c.loop.at ≡ None = subst (λ (f : Keys). slice_get f.origins c.loop.at ≡ None) c.self.view_is inside in
          down_past next many first most f u c.args.number c.loop.at c.loop.choices.items c.loop.counter down past
    ]
