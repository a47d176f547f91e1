use Rattle.std.proofs.Common.{◌≡◌, take}
use Rattle.ras_klog.proofs.words.after_name.Given as goal

-- the bytes up to here are the name's
abbrev pub invariant-loop-place : goal.invariant-loop-place
invariant-loop-place l = take l.place l.text ≡ take l.place l.name
