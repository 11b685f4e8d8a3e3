-- The starred lines hold, each by computing what the definitions give. Assumes nothing.
use mathlib.Core.Path.{refl}
use Rattle.numbers.specs.Decimal.{digits}
use Rattle.numbers.specs.Seven.{groups, groups_in}
use Rattle.ccnet_check.specs.Check as ccnet-check
use Rattle.ccnet_frame.specs.Frame as ccnet
use Rattle.xor_frame.specs.Layout.{all_bytes}
use Rattle.dispenser_frame_rules.specs.Table.{table, line_in}
use Rattle.xor_frame.specs.Frame as dispenser
use Rattle.dispenser_frame_rules.specs.Command.{command_frame}
use Rattle.bench_sheet.specs.Sheet.{Starred}

pub starred : Starred
unfolding command_frame dispenser.frame dispenser.closed dispenser.check dispenser.check_from all_bytes digits table line_in groups groups_in ccnet.frame ccnet.closed ccnet-check.check ccnet-check.check_from ccnet-check.turns ccnet-check.turn
starred =
    record {
      ten_upper = refl;
      fifteen_lower = refl;
      fifteen_and_fifteen = refl;
      purge = refl;
      status = refl;
      poll = refl;
      ack = refl;
      reset = refl;
      nak = refl;
      one_thousand = refl;
    }
