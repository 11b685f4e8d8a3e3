-- The stray run meets the weaker reading and ends at rest with the ends apart, by computing what the definitions give. Assumes nothing.
use Prim.Native.Nat.{ℕ}
use mathlib.Core.Path.{◌≡◌, refl, sym, ap, ◌∙◌}
use native.Mathlib.Omega.{arith}
use Rattle.refusals.specs.Put.{over}
use Rattle.numbers.specs.Decimal.{digits, digits_only, number, number_from}
use Rattle.xor_frame.specs.Layout.{sizes, all_in_range, all_bytes, all_values, all_fit}
use Rattle.xor_frame.specs.Frame as frames
use Rattle.dispenser_frame_rules.specs.Table.{table, code_in, line_in}
use Rattle.dispenser_frame_rules.specs.Command.{counts_fit, sendable, command_frame, command_refusals, write_command, command_in, read_command}
use Rattle.dispenser_frame_rules.specs.Answer.{answer_fits, answer_frame, answer_refusals, write_answer, read_answer}
use Rattle.exchange_rules.specs.Exchange as exchange
use Rattle.exchange_rules.specs.Sums as sums
use Rattle.dispenser_rules.specs.Account as account
use Rattle.dispenser_rules.specs.Session as session
use Rattle.pretend_rules.specs.Wire as wire
use Rattle.pretend_rules.specs.Tally.{more, rejected_more}
use Rattle.pretend_rules.specs.Device as device
use Rattle.pretend_rules.specs.Bench.{run}
use Rattle.pretend_rules.specs.declared.tally.Tallies.{Tallies}
use Rattle.pretend_rules.specs.Stray.{LaxRun, stray, Stray, NotEnough}

pub stray-holds : Stray
unfolding run LaxRun digits digits_only number number_from over sizes all_in_range all_bytes all_values all_fit table code_in line_in frames.length_with frames.check frames.check_from frames.closed frames.frame frames.faults counts_fit sendable command_frame command_refusals write_command command_in read_command answer_fits answer_frame answer_refusals write_answer read_answer exchange.first_byte exchange.bad_frame exchange.start_byte exchange.inside_byte exchange.heard exchange.expired exchange.passed exchange.one_more sums.plus sums.sums_opened sums.sums_answered sums.sums_unknown sums.sums_rejected account.account_opened account.account_unknown session.pays session.account_asked session.account_heard session.wrote session.hand_over session.bad_step session.judge_step session.byte_refusals session.byte_step session.tick_refusals session.tick_step session.request_refusals session.request_step session.clear_refusals session.clear_step session.fresh_session session.session_request session.session_byte session.session_tick session.session_clear wire.idle_byte wire.code_byte wire.last_byte wire.command_byte wire.again wire.answer_byte wire.heard wire.expired wire.passed more rejected_more device.send device.judge_step device.byte_refusals device.byte_step device.tick_refusals device.tick_step device.tell_refusals device.tell_step device.fresh_device device.device_byte device.device_tick device.device_tell
stray-holds =
    record {
      lax = (((λ h. tt), tt), (((λ h. tt), tt), (((λ h. tt), tt), (((λ h. tt), tt), (((λ h. tt), tt), (((λ h. tt), tt), ((tt, λ h. refl), (((λ h. tt), tt), (((λ h. tt), tt), (((λ h. tt), tt), (((λ h. tt), tt), (((λ h. tt), tt), (((λ h. tt), tt), (((λ h. tt), tt), (((λ h. tt), tt), (((λ h. tt), tt), (((λ h. tt), tt), (((λ h. tt), tt), (((λ h. tt), tt), (((λ h. tt), tt), (((λ h. tt), tt), (((λ h. tt), tt), (((λ h. tt), tt), (((λ h. tt), tt), (((λ h. tt), tt), (((λ h. tt), tt), (((λ h. tt), tt), (((λ h. tt), tt), (((λ h. tt), tt), (((λ h. tt), tt), (((λ h. tt), tt), (((λ h. tt), tt), (((λ h. tt), tt), (((λ h. tt), tt), (((λ h. tt), tt), (((λ h. tt), tt), (((λ h. tt), tt), (((λ h. tt), tt), (((λ h. tt), tt), (((λ h. tt), tt), (((λ h. tt), tt), (((λ h. tt), tt), (((λ h. tt), tt), (((λ h. tt), tt), (((λ h. tt), tt), (((λ h. tt), tt), (((λ h. tt), tt), (((λ h. tt), tt), (((λ h. tt), tt), (((λ h. tt), tt), (((λ h. tt), tt), (((λ h. tt), tt), (((λ h. tt), tt), (((λ h. tt), tt), (((λ h. tt), tt), (((λ h. tt), tt), (((λ h. tt), tt), (((λ h. tt), tt), (((λ h. tt), tt), (((λ h. tt), tt), (((λ h. tt), tt), (((λ h. tt), tt), (((λ h. tt), tt), (((λ h. tt), tt), (((λ h. tt), tt), (((λ h. tt), tt), (((λ h. tt), tt), (((λ h. tt), tt), (((λ h. tt), tt), (((λ h. tt), tt), (((λ h. tt), tt), (((λ h. tt), tt), (((λ h. tt), tt), (((λ h. tt), tt), (((λ h. tt), tt), (((λ h. tt), tt), (((λ h. tt), tt), (((λ h. tt), tt), (((λ h. tt), tt), (((λ h. tt), tt), (((λ h. tt), tt), (((λ h. tt), tt), (((λ h. tt), tt), (((λ h. tt), tt), (((λ h. tt), tt), (((λ h. tt), tt), (((λ h. tt), tt), (((λ h. tt), tt), (((λ h. tt), tt), (((λ h. tt), tt), (((λ h. tt), tt), (((λ h. tt), tt), (((λ h. tt), tt), (((λ h. tt), tt), (((λ h. tt), tt), (((λ h. tt), tt), (((λ h. tt), tt), (((λ h. tt), tt), (((λ h. tt), tt), (((λ h. tt), tt), (((λ h. tt), tt), (((λ h. tt), tt), (((λ h. tt), tt), (((λ h. tt), tt), (((λ h. tt), tt), (((λ h. tt), tt), (((λ h. tt), tt), (((λ h. tt), tt), (((λ h. tt), tt), ((tt, λ h. refl), (((_, (_, refl)), tt), (((_, (_, refl)), tt), (((_, (_, refl)), tt), (((_, (_, refl)), tt), (((_, (_, refl)), tt), (((_, (_, refl)), tt), (((_, (_, refl)), tt), (((_, (_, refl)), tt), (((_, (_, refl)), tt), (((_, (_, refl)), tt), (((_, (_, refl)), tt), (((_, (_, refl)), tt), (((_, (_, refl)), tt), (((_, (_, refl)), tt), (((_, (_, refl)), tt), (((_, (_, refl)), tt), (((_, (_, refl)), tt), ((tt, tt), (((_, (_, refl)), tt), (((_, (_, refl)), tt), (((_, (_, refl)), tt), (((_, (_, refl)), tt), (((_, (_, refl)), tt), (((_, (_, refl)), tt), (((_, (_, refl)), tt), (((_, (_, refl)), tt), (((_, (_, refl)), tt), (((_, (_, refl)), tt), (((_, (_, refl)), tt), (((_, (_, refl)), tt), (((_, (_, refl)), tt), (((_, (_, refl)), tt), (((_, (_, refl)), tt), (((_, (_, refl)), tt), (((_, (_, refl)), tt), (((_, (_, refl)), tt), (((_, (_, refl)), tt), (((_, (_, refl)), tt), (((_, (_, refl)), tt), (((_, (_, refl)), tt), (((_, (_, refl)), tt), (((_, (_, refl)), tt), (((_, (_, refl)), tt), (((_, (_, refl)), tt), (((_, (_, refl)), tt), (((_, (_, refl)), tt), (((_, (_, refl)), tt), (((_, (_, refl)), tt), (((_, (_, refl)), tt), (((_, (_, refl)), tt), (((_, (_, refl)), tt), (((_, (_, refl)), tt), (((_, (_, refl)), tt), (((_, (_, refl)), tt), (((_, (_, refl)), tt), (((_, (_, refl)), tt), (((_, (_, refl)), tt), (((_, (_, refl)), tt), (((_, (_, refl)), tt), (((_, (_, refl)), tt), (((_, (_, refl)), tt), (((_, (_, refl)), tt), (((_, (_, refl)), tt), tt)))))))))))))))))))))))))))))))))))))))))))))))))))))))))))))))))))))))))))))))))))))))))))))))))))))))))))))))))))))))))))))))))))))))))))))))))))))))))))))))))))))))))))));
      rests = record { host = refl; device = refl };
      host = refl;
      device = refl;
    }

pub not-enough : NotEnough
not-enough agree =
    let e = sym stray-holds.host ∙ agree stray stray-holds.lax stray-holds.rests ∙ stray-holds.device in
    let z : ◌≡◌ {A = ℕ} 0 10 = ap (λ (t : Tallies). t.upper.paid.0) e in
    omega arith
