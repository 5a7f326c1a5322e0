-- What a rare way of an enter or an exit asks and says, by what its caller knows of how far the call came.
use Rattle.std.proofs.Common.{◌≡◌, ℕ, subst, sym}
use Rattle.heap_table.specs.declared.quick.QuickEnter.{QuickEnter}
use Rattle.heap_table.specs.declared.quick.QuickExit.{QuickExit}
use Rattle.lock_runtime_c.specs.declared.answers.Answer.{Answer}
use Rattle.lock_runtime_c.specs.declared.handle.Slot.{Slot}
use Rattle.lock_runtime_c.specs.declared.inner.Inner.{Inner}
use Rattle.lock_runtime_c.specs.inner.QuickCalls.{EndsEnter, EndsExit, IsAmidEnter, IsAmidExit}

pub enter_amid : (y : Inner) (o now : ℕ) (how was : QuickEnter) → how ≡ was → IsAmidEnter y o now how → IsAmidEnter y o now was
enter_amid y o now how was is came = subst (λ (w : QuickEnter). IsAmidEnter y o now w) is came

pub enter_ends : (y : Inner) (o now : ℕ) (how was : QuickEnter) (after : Slot) (a : Answer) → how ≡ was
    → EndsEnter y o now was after a → EndsEnter y o now how after a
enter_ends y o now how was after a is ends = subst (λ (w : QuickEnter). EndsEnter y o now w after a) (sym is) ends

pub exit_amid : (y : Inner) (o : ℕ) (how was : QuickExit) → how ≡ was → IsAmidExit y o how → IsAmidExit y o was
exit_amid y o how was is came = subst (λ (w : QuickExit). IsAmidExit y o w) is came

pub exit_ends : (y : Inner) (o : ℕ) (how was : QuickExit) (after : Slot) (a : Answer) → how ≡ was
    → EndsExit y o was after a → EndsExit y o how after a
exit_ends y o how was after a is ends = subst (λ (w : QuickExit). EndsExit y o w after a) (sym is) ends
