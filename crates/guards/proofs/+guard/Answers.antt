use Rattle.std.proofs.Common.{Ok, ◌-◌, arith, length, take}
use Rattle.guards.specs.Guard.{conj, disj}
use Rattle.guards.proofs.Returns.{anew, chain_done, chain_end, chain_fault, chain_more, chain_up, choice_done, choice_end, choice_fault, choice_open, choice_stop, first_up, guard_end, not_deep, not_done, not_up, open_chain, open_choice, open_deep, open_done, open_end, open_fault, open_up, second_up}
use Rattle.guards.proofs.+guard.Goals as goal

pub read_chain-returns-in_err-next : goal.read_chain-returns-in_err-next
read_chain-returns-in_err-next t c = chain_up _ _ _ _ c.in_err-next.ensures _ c.from_residual.ensures.1 _ _ _ _ c.loop-next.invariant _

pub read_chain-returns-then-next-field : goal.read_chain-returns-then-next-field
read_chain-returns-then-next-field t c = λ o ps e m. chain_end _ _ _ _ _ c.in_ok-next.ensures _ _ _ _ c.loop-next.invariant o ps e m _ _ c.if-next-field.true c.refuse.ensures

pub read_chain-returns-then-b-eq41 : goal.read_chain-returns-then-b-eq41
read_chain-returns-then-b-eq41 t c = λ o ps e m. chain_done _ _ _ _ _ c.in_ok-next.ensures _ _ _ _ c.loop-next.invariant o ps e m _ c.if-next-field.false c.if-b-eq41.true c.set_joined.ensures

pub read_chain-returns-then-b-op : goal.read_chain-returns-then-b-op
read_chain-returns-then-b-op t c = λ o ps e m. chain_fault _ _ _ _ _ c.in_ok-next.ensures _ _ _ _ c.loop-next.invariant o ps e m _ _ c.if-next-field.false c.if-b-eq41.false c.if-b-op.true c.refuse-then-b-op.ensures

pub read_chain-loop-next-preserved : goal.read_chain-loop-next-preserved
read_chain-loop-next-preserved t c = chain_more _ _ _ _ _ c.in_ok-next.ensures _ _ _ _ c.loop-next.invariant _ c.if-next-field.false c.if-b-eq41.false c.if-b-op.false c.set_joined.ensures

pub read_choice-returns-in_err-colon : goal.read_choice-returns-in_err-colon
read_choice-returns-in_err-colon t c = λ x m. first_up _ _ _ _ c.in_err-colon.ensures _ c.from_residual.ensures.1 x _

pub read_choice-returns-then-colon-field : goal.read_choice-returns-then-colon-field
read_choice-returns-then-colon-field t c = λ x m. choice_end _ _ _ _ _ c.in_ok-colon.ensures x _ _ c.if-colon-field.true c.refuse.ensures

pub read_choice-returns-then-field-colon-ne58 : goal.read_choice-returns-then-field-colon-ne58
read_choice-returns-then-field-colon-ne58 t c = λ x m. choice_fault _ _ _ _ _ c.in_ok-colon.ensures x _ _ c.if-colon-field.false c.if-field-colon-ne58.true c.refuse-then-field-colon-ne58.ensures

pub read_choice-returns-in_err-end : goal.read_choice-returns-in_err-end
read_choice-returns-in_err-end t c = λ x m. second_up _ _ _ _ _ c.in_ok-colon.ensures x c.if-colon-field.false c.if-field-colon-ne58.false c.in_err-end.ensures _ c.from_residual-in_err-end.ensures.1 _

pub read_choice-returns-then-end-field : goal.read_choice-returns-then-end-field
read_choice-returns-then-end-field t c = λ x m. choice_stop _ _ _ _ _ c.in_ok-colon.ensures x c.if-colon-field.false c.if-field-colon-ne58.false _ c.in_ok-end.ensures _ _ c.if-end-field.true c.refuse-then-end-field.ensures

pub read_choice-returns-then-field-end-ne41 : goal.read_choice-returns-then-field-end-ne41
read_choice-returns-then-field-end-ne41 t c = λ x m. choice_open _ _ _ _ _ c.in_ok-colon.ensures x c.if-colon-field.false c.if-field-colon-ne58.false _ c.in_ok-end.ensures _ _ c.if-end-field.false c.if-field-end-ne41.true c.refuse-then-field-end-ne41.ensures

pub read_choice-returns : goal.read_choice-returns
read_choice-returns t c = λ x m. choice_done _ _ _ _ _ c.in_ok-colon.ensures x c.if-colon-field.false c.if-field-colon-ne58.false _ c.in_ok-end.ensures _ c.if-end-field.false c.if-field-end-ne41.false (λ y z. c.set_choice.ensures x y z m)

pub read_guard-returns-then-at-field : goal.read_guard-returns-then-at-field
read_guard-returns-then-at-field t c = anew _ _ _ _ c.refuse.result _ (guard_end _ _ _ _ _ _ c.if-at-field.true c.refuse.ensures)

pub read_guard-returns-then-left-eq0 : goal.read_guard-returns-then-left-eq0
read_guard-returns-then-left-eq0 t c = anew _ _ _ _ c.refuse-then-left-eq0.result _ (not_deep (take (length c.args.field.now - 0) c.args.field.now) _ c.args.left c.args.at (omega arith) _ _ c.if-b-eq33.true c.if-left-eq0.true c.refuse-then-left-eq0.ensures)

pub read_guard-returns-in_err-next : goal.read_guard-returns-in_err-next
read_guard-returns-in_err-next t c = anew _ _ _ _ c.from_residual.result _ (not_up _ _ _ _ (omega arith) _ _ c.if-b-eq33.true c.if-left-eq0.false c.from_residual.ensures.1 c.in_err-next.ensures)

pub read_guard-returns-then-b-eq33 : goal.read_guard-returns-then-b-eq33
read_guard-returns-then-b-eq33 t c = anew _ _ _ _ (Ok c.in_ok-next.next) _ (not_done _ _ _ _ (omega arith) _ _ c.if-b-eq33.true c.if-left-eq0.false c.in_ok-next.ensures c.set_not.ensures)

pub read_guard-returns-then-left-eq0-2 : goal.read_guard-returns-then-left-eq0-2
read_guard-returns-then-left-eq0-2 t c = anew _ _ _ _ c.refuse-then-left-eq0-2.result _ (open_deep (take (length c.args.field.now - 0) c.args.field.now) _ c.args.left c.args.at (omega arith) _ _ c.if-b-eq40.true c.if-left-eq0-2.true c.refuse-then-left-eq0-2.ensures)

pub read_guard-returns-then-b-eq40 : goal.read_guard-returns-then-b-eq40
read_guard-returns-then-b-eq40 t c = anew _ _ _ _ c.read_open.result _ (open_done _ _ _ _ (omega arith) c.read_open.result _ c.if-b-eq40.true c.if-left-eq0-2.false c.read_open.ensures)

pub read_guard-returns : goal.read_guard-returns
read_guard-returns t c = anew _ _ _ _ c.read_plain.result _ (c.read_plain.ensures _ c.if-b-eq33.false c.if-b-eq40.false)

pub read_open-returns-in_err-next : goal.read_open-returns-in_err-next
read_open-returns-in_err-next t c = open_up _ _ _ _ c.in_err-next.ensures _ c.from_residual.ensures.1 _

pub read_open-returns-then-next-field : goal.read_open-returns-then-next-field
read_open-returns-then-next-field t c = open_end _ _ _ _ _ c.in_ok-next.ensures _ _ c.if-next-field.true c.refuse.ensures

pub read_open-returns-then-op-eq63 : goal.read_open-returns-then-op-eq63
read_open-returns-then-op-eq63 t c = open_choice _ _ _ _ _ c.in_ok-next.ensures c.read_choice.result _ c.if-next-field.false c.if-op-eq63.true c.read_choice.ensures

pub read_open-returns-then-op-eq38 : goal.read_open-returns-then-op-eq38
read_open-returns-then-op-eq38 t c = open_chain _ _ _ _ _ c.in_ok-next.ensures conj c.read_chain.result _ c.if-next-field.false c.if-op-eq38.true c.read_chain.ensures

pub read_open-returns-then-op-eq124 : goal.read_open-returns-then-op-eq124
read_open-returns-then-op-eq124 t c = open_chain _ _ _ _ _ c.in_ok-next.ensures disj c.read_chain-then-op-eq124.result _ c.if-next-field.false c.if-op-eq124.true c.read_chain-then-op-eq124.ensures

pub read_open-returns : goal.read_open-returns
read_open-returns t c = open_fault _ _ _ _ _ c.in_ok-next.ensures _ _ c.if-next-field.false c.if-op-eq63.false c.if-op-eq38.false c.if-op-eq124.false c.refuse-2.ensures
