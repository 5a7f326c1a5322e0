use Rattle.std.proofs.Common.{refl, sym, ap, ◌∙◌}
use Rattle.std.proofs.lemmas.Bool.{false≢true}
use Rattle.heap_table.proofs.Follow.{follow_hit}
use Rattle.heap_table.specs.inner.Kept.{stand_after}
use Rattle.heap_table.proofs.mirror.Mirror.follow.Goals as goal

pub returns-then-effect-clause-follows : goal.returns-then-effect-clause-follows
returns-then-effect-clause-follows c =
    λ s start k f d. follow_hit s start _ _ k c.args.self.now _ (sym c.apply-effect.ensures.hit ∙ c.if-effect.true) f refl c.note_entry.ensures.log
    (c.stand_next.ensures
    ∙ ap (λ x. stand_after c.args.step.now.at c.args.step.now.act x c.args.self.now.thread c.args.self.now.stand) c.apply-effect.ensures.word)
    c.keep_next.ensures c.saved_next-self.ensures c.store_hold.ensures c.wait_next-self.ensures
    c.published_next-self.ensures c.unfinished_next-self.ensures refl (refl, refl) c.count_next.ensures
    c.draw_next.ensures.installed c.draw_next.ensures.generator c.made_next-self.ensures c.shoot.ensures.taken d

pub returns-then-effect-clause-late : goal.returns-then-effect-clause-late
returns-then-effect-clause-late c =
    λ hit s start k left check f d. follow_hit s start _ _ k (record c.args.self.now { unfinished = left; checking = check }) _ hit f refl c.note_entry.ensures.log
    (c.stand_next.ensures
    ∙ ap (λ x. stand_after c.args.step.now.at c.args.step.now.act x c.args.self.now.thread c.args.self.now.stand) c.apply-effect.ensures.word)
    c.keep_next.ensures c.saved_next-self.ensures c.store_hold.ensures c.wait_next-self.ensures
    c.published_next-self.ensures c.unfinished_next-self.ensures refl (refl, refl) c.count_next.ensures
    c.draw_next.ensures.installed c.draw_next.ensures.generator c.made_next-self.ensures c.shoot.ensures.taken d

pub returns-else-effect-clause-late : goal.returns-else-effect-clause-late
returns-else-effect-clause-late c = λ hit s start k left check f d. absurd (false≢true (sym c.if-effect.false ∙ c.apply-effect.ensures.hit ∙ hit))
