-- The entry is kept, and whatever else a mirror shows stays as it is.
use Rattle.std.proofs.Common.{◌≤◌, ◌∙◌, refl, subst, sym, ℕ, vec_capacity, vec_len}
use Rattle.core_world.specs.Trees.Plans.{logging_plan, with_stage}
use Rattle.heap_table.proofs.Follow.{follow_hit}
use Rattle.heap_table.proofs.mirror.Mirror.note.Goals as goal
use Rattle.heap_table.proofs.mirror.Mirror.note.Goals.{After-note_entry}

log_room : (c : After-note_entry) → c.args.self.now.room ≤ vec_capacity c.note_entry.new.log
log_room c = subst (λ (n : ℕ). c.args.self.now.room ≤ n) (sym c.note_entry.ensures.room) c.args.self.now.has_room

log_within : (c : After-note_entry) → vec_len c.note_entry.new.log ≤ c.args.self.now.room
log_within c = c.note_entry.ensures.within c.args.self.now.room c.requires.room c.args.self.now.within

pub invariant_of-self : goal.invariant_of-self
invariant_of-self c =
    let z = (goal.at.invariant_of-self c).After-note_entry in
    let m = c.args.self.now in record {
      has_room = log_room z;
      within = log_within z;
      few = c.note_entry.ensures.few;
      whole = c.note_entry.ensures.whole m.whole;
      ends = m.ends ∙ sym (c.note_entry.ensures.end m.room);
      low = m.low;
      owns = m.owns;
    }

pub returns-clause-shows : goal.returns-clause-shows
returns-clause-shows c = λ s start e stage at act k aside shows.
    follow_hit s start (with_stage stage (logging_plan c.args.entry e at act)) c.args.found k _ _ aside.hit shows refl c.note_entry.ensures.log
    (sym aside.stand) refl refl (λ l e. sym e ∙ sym (aside.holds l)) (λ l t e. sym e ∙ sym (aside.wait l)) (λ l e. sym e ∙ sym (aside.published l))
    refl refl (refl, refl) (λ n k e. e) (sym (aside.draws c.args.self.now.drawing.installed)) (λ first e. e) (sym (aside.made c.args.self.now.made)) refl tt
