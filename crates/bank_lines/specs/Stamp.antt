-- The time stamp of a line of the kernel.
use Rattle.std.specs.Prelude.{ℕ, ◌+◌, ◌-◌, ◌*◌, ◌==◌, ◌&&◌, List, drop, take, length, nat_lt, slice_index, Option, Some}
use Rattle.ras_klog.specs.Reading.{provided, read_then}
use Rattle.ras_script.specs.Number.{decimal_of}
use Rattle.bank_lines.specs.declared.stamp.TheConstants.{MOST_SECONDS}

-- The microseconds of a stamp `<seconds>.<microseconds>:`. After the seconds come a point, six digits and a colon.
abbrev pub stamp_of : List ℕ → Option ℕ
stamp_of word =
    let point = length word - 8 in
    provided (nat_lt 8 (length word) && (slice_index word point == 46 && slice_index word (point + 7) == 58)) (
    read_then (decimal_of MOST_SECONDS (take point word)) (λ seconds.
    read_then (decimal_of 999999 (take 6 (drop (point + 1) word))) (λ micros.
    Some (1000000 * seconds + micros))))
