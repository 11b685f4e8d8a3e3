-- `pretend_rules::device::Device::fresh` meets its contract. Assumes nothing.
use Rattle.pretend_rules.specs.Device.{fresh_device}
use Rattle.pretend_rules.proofs.device.Device.fresh.Goals as goal

pub returns : goal.returns
unfolding fresh_device
returns c = rw (c.fresh.ensures, c.fresh-2.ensures)
