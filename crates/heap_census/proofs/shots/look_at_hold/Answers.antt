use Rattle.std.proofs.Common.{◌≡◌, Bool, true, false, refl, ap, sym, ◌∙◌}
use mir.Val.{bool_byte}
use Rattle.core_world.specs.declared.word_id.WordId.TheVariants.{Hold}
use Rattle.core_world.specs.Threads.Stages.{one_if}
use Rattle.core_world.specs.Words.Forms.{names}
use Rattle.heap_table.proofs.StepsLeft.{all_left, can_make}
use Rattle.heap_census.proofs.Later.{load_later, load_settled}
use Rattle.heap_census.proofs.shots.look_at_hold.Goals as goal

pub load-word-requires : goal.load-word-requires
load-word-requires c = can_make (all_left c.requires.heap c.requires.due) refl refl refl tt

pub returns-clause-later : goal.returns-clause-later
returns-clause-later c = load_later c.args.call.now (Hold c.args.thread c.args.place) c.requires.heap c.requires.reached c.load-word.ensures

pub returns-clause-held : goal.returns-clause-held
returns-clause-held c = λ l later.
    ap (λ n. one_if (names c.args.object n))
    (load_settled c.args.call.now (Hold c.args.thread c.args.place) c.requires.heap c.requires.reached c.load-word.ensures l later)
    ∙ sym (c.from.ensures ∙ number c.names.result ∙ ap one_if c.names.ensures)
  where
    number : (b : Bool) → bool_byte b ≡ one_if b
    number true = refl
    number false = refl
