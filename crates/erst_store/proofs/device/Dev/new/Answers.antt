use Rattle.std.proofs.Common.{◌≡◌, ℕ, List, ap, refl}
use Rattle.erst_store.specs.Device.{zeros, new_device}
use Rattle.erst_store.proofs.device.Dev.new.Goals as goal

pub returns : goal.returns
unfolding zeros
returns c =
    let made : c.resize.new.self.items ≡ zeros = rw (c.in_ok-resize.ensures.items, c.new-range.ensures.items, c.new-range.ensures.len) refl in
    ap (λ (bytes : List ℕ). record (new_device c.args.store c.args.slow) { range = bytes }) made
