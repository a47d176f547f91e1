-- The mask rounds down, and the properties that rounding keeps.
use Rattle.std.proofs.Common.{◌-◌, arith}
use Rattle.mca_status.proofs.RoundingLemmas.{masked, rounded-near, rounded-whole, rounded-page}
use Rattle.mca_status.proofs.addresses.round_down.Goals as goal

pub returns-clause-rounded : goal.returns-clause-rounded
returns-clause-rounded c = masked c.args.address c.args.least_bit c.ranges.address.fits (omega (arith, c.requires))

pub returns-clause-near : goal.returns-clause-near
returns-clause-near c = rw (masked c.args.address c.args.least_bit c.ranges.address.fits (omega (arith, c.requires))) (rounded-near c.args.address c.args.least_bit)

pub returns-clause-whole : goal.returns-clause-whole
returns-clause-whole c = rw (masked c.args.address c.args.least_bit c.ranges.address.fits (omega (arith, c.requires))) (rounded-whole c.args.address c.args.least_bit)

pub returns-clause-same_page : goal.returns-clause-same_page
returns-clause-same_page c within = rw (masked c.args.address c.args.least_bit c.ranges.address.fits (omega (arith, c.requires))) (rounded-page c.args.address c.args.least_bit (12 - c.args.least_bit) (omega (arith, c.requires)))
