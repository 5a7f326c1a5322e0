use Rattle.std.proofs.Common.{List, map, ap, ◌∙◌}
use Rattle.object_program.specs.declared.program.ClassDef.{ClassDef}
use Rattle.object_program.specs.Program.{ProgramText}
use Rattle.program_run.proofs.Pushed.{all_pushed, pushed_on, pushed_well}
use Rattle.program_run.proofs.shape.slots_by_class.Goals as goal

pub loop-class-init : goal.loop-class-init
loop-class-init c =
    record {
      items = c.items-class-items.ensures ∙ ap (λ (p : ProgramText). p.classes) c.program.view_is;
      slots = c.new-slots.ensures.items;
    }

pub loop-class-preserved : goal.loop-class-preserved
loop-class-preserved c =
    let inv = c.loop-class.invariant in
    let pushed = pushed_well _ c.loop-class.slots.items c.push.new.self.items c.class-item.result.slots c.push.ensures.items c.in_ok-map_err.ensures.variant in
    record {
      items = inv.items;
      slots =
          pushed_on (λ (d : ClassDef). d.slots) c.items-class-items.result.now c.loop-class.class-index c.class-item.result _ _ _
          c.loop-class-test.true inv.slots pushed (ap (λ (d : ClassDef). d.slots) c.class-item.is);
    }

pub returns : goal.returns
returns c =
    let inv = c.loop-class.invariant in
    all_pushed (λ (d : ClassDef). d.slots) c.items-class-items.result.now c.loop-class.class-index _ c.loop-class-test.false inv.slots
    ∙ ap (λ (ds : List ClassDef). map (λ d. d.slots) ds) inv.items
