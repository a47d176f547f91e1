use Rattle.std.proofs.Common.{List, [], ◌∷◌, ◌++◌, refl, ap, sym, ◌∙◌}
use Rattle.board_core.specs.declared.board.Reg.{Reg}
use Rattle.board_core.specs.declared.history.MemChange.{MemChange}
use Rattle.board_core.specs.declared.history.MemChange.TheVariants.{WroteRegister}
use Rattle.board_core.specs.Doing.{device, reg_write}
use Rattle.board_core.specs.Told.{after_reg_write}
use Rattle.board_core.proofs.HistoryLemmas.{device_acted}
use Rattle.board_core.proofs.history.History.write_register.Goals as goal
use Rattle.board_core.proofs.history.History.write_register.Goals.{in-Action+in_ok-write_action-in-Action, in-Value}

pub invariant_of-self-2 : goal.invariant_of-self-2
invariant_of-self-2 c =
    elim c.match-reg.branch [
      | in-Action+in_ok-write_action-in-Action w ↦ rw w.self-inside-is
          (device_acted _ _ _ _ _ _ _ c.self.invariant (WroteRegister c.args.reg c.args.value) (device (reg_write c.args.reg c.args.value)) (after_reg_write c.args.reg c.args.value) w.write_action.new.self (λ has. has) refl
          ((rw w.self-inside-is at c.in_ok-push.ensures.items) ∙ ap (λ (events : List MemChange). events ++ WroteRegister c.args.reg c.args.value ∷ []) c.in_ok-reserve.ensures.items)
          (w.in_ok-write_action-in-Action.ensures.ok ∙ sym (ap (λ (reg : Reg). after_reg_write reg c.args.value c.self.inside.device) w.in-Action.is)))
      | in-Value w ↦ rw w.self-inside-is
          (device_acted _ _ _ _ _ _ _ c.self.invariant (WroteRegister c.args.reg c.args.value) (device (reg_write c.args.reg c.args.value)) (after_reg_write c.args.reg c.args.value) w.write_value.new.self (λ has. has) refl
          ((rw w.self-inside-is at c.in_ok-push.ensures.items) ∙ ap (λ (events : List MemChange). events ++ WroteRegister c.args.reg c.args.value ∷ []) c.in_ok-reserve.ensures.items)
          (w.write_value.ensures ∙ sym (ap (λ (reg : Reg). after_reg_write reg c.args.value c.self.inside.device) w.in-Value.is)))
    ]
