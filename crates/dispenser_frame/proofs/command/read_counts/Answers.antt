-- `dispenser_frame::command::read_counts` meets its contract: by what is asked of each cassette. Assumes nothing.
use mathlib.Core.Path.{sym, ◌∙◌}
use Rattle.dispenser_frame_rules.proofs.Raw.{counts-raw}
use Rattle.dispenser_frame_rules.proofs.Codes.{lower-fits}
use native.Mathlib.Omega.{arith}
use Rattle.dispenser_frame.proofs.command.read_counts.Goals as goal

pub asked_count-lower-requires : goal.asked_count-lower-requires
asked_count-lower-requires c = λ e.
    rw (c.lower_place.ensures, c.asks_upper-pays_upper.ensures) (omega (arith, lower-fits c.args.code (sym c.asks_lower.ensures ∙ e)))

pub returns-then-counts_fit : goal.returns-then-counts_fit
returns-then-counts_fit c = sym (counts-raw c.args.code c.args.s.now c.asked_count-upper.result c.asked_count-lower.result (c.asked_count-upper.ensures ∙ rw c.asks_upper-pays_upper.ensures) (c.asked_count-lower.ensures ∙ rw (c.lower_place.ensures, c.asks_upper-pays_upper.ensures, c.asks_lower.ensures)) ∙ simp (← c.counts_fit.ensures, c.if-counts_fit.true))

pub returns : goal.returns
returns c = sym (counts-raw c.args.code c.args.s.now c.asked_count-upper.result c.asked_count-lower.result (c.asked_count-upper.ensures ∙ rw c.asks_upper-pays_upper.ensures) (c.asked_count-lower.ensures ∙ rw (c.lower_place.ensures, c.asks_upper-pays_upper.ensures, c.asks_lower.ensures)) ∙ simp (← c.counts_fit.ensures, c.if-counts_fit.false))
