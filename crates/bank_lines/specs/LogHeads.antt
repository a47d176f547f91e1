-- Which lines of a kernel log are the kernel's own. A line's head, the text before its prefix, shows it.
use Rattle.std.specs.Prelude.{ℕ, ◌+◌, ◌-◌, ◌==◌, ◌&&◌, ◌||◌, Bool, not, List, [], ◌∷◌, codes, drop, take, length, slice_index_or, nat_eq, nat_lt, Option, None, Some, if◌then◌else◌}
use Rattle.std.specs.Char.{is_digit}
use Rattle.std.specs.List.{ends_with, list_all, list_any, position_or_len, starts_with}
use Rattle.std.specs.Option.{option_map}
use Rattle.std.specs.Str.{bytes_eq}

-- ---- texts

-- the text before the first such byte, or all of it if there is none
abbrev pub up_to : ℕ → List ℕ → List ℕ
up_to byte text = take (position_or_len (λ b. b == byte) text) text

-- the text after the first such byte
abbrev pub after : ℕ → List ℕ → List ℕ
after byte text = drop (position_or_len (λ b. b == byte) text + 1) text

abbrev pub without_spaces : List ℕ → List ℕ
without_spaces text = drop (position_or_len (λ b. not (b == 32)) text) text

-- the index of the first occurrence of a text in another
abbrev pub mark_place : List ℕ → List ℕ → Option ℕ
mark_place text [] = None
mark_place text (b ∷ bytes) =
    if starts_with nat_eq (b ∷ bytes) text then Some 0
    else option_map (λ place. place + 1) (mark_place text bytes)

abbrev pub begins : List ℕ → List ℕ → Bool
begins text front = starts_with nat_eq text front

abbrev pub are_digits : List ℕ → Bool
are_digits text = list_all (λ b. is_digit b 10) text

abbrev pub has_digit : List ℕ → Bool
has_digit text = list_any (λ b. is_digit b 10) text

abbrev pub is_number : List ℕ → Bool
is_number text = not (length text == 0) && are_digits text

-- whether a text has no space
abbrev pub is_joined : List ℕ → Bool
is_joined text = list_all (λ b. not (b == 32)) text

-- ---- names

-- whether this is a character of a host's name
abbrev pub is_name_sign : ℕ → Bool
is_name_sign b =
    list_any (λ sign. sign == b) (codes "abcdefghijklmnopqrstuvwxyzABCDEFGHIJKLMNOPQRSTUVWXYZ0123456789.-_")

abbrev pub are_name_signs : List ℕ → Bool
are_name_signs text = list_all (λ b. is_name_sign b) text

abbrev pub is_name : List ℕ → Bool
is_name word = not (length word == 0) && are_name_signs word

-- whether a text consists of names and spaces
abbrev pub are_names : List ℕ → Bool
are_names text = list_all (λ b. b == 32 || is_name_sign b) text

-- whether this is a space and the host's name, or nothing
abbrev pub is_host : List ℕ → Bool
is_host text = length text == 0 || begins text (codes " ") && is_name (drop 1 text)

-- ---- times

abbrev pub are_signs : List ℕ → Bool
are_signs text = list_all (λ b. list_any (λ sign. sign == b) (codes "0123456789:.,+-TZ")) text

-- whether this is a word of a time: `29`, `13:36:01.123456`, `2026-11-29T13:36:01+00:00`
abbrev pub is_time : List ℕ → Bool
is_time word = has_digit word && are_signs word

-- the characters of a time in brackets: `   12.500001`, `Sun Nov 29 13:36:01 2026`, `   12.500001 <    0.000001 >`
abbrev pub are_clock_signs : List ℕ → Bool
are_clock_signs text = list_all (λ b. is_name_sign b || list_any (λ sign. sign == b) (codes " :+<>")) text

abbrev pub is_clock : List ℕ → Bool
is_clock text = has_digit text && are_clock_signs text

-- the time that `dmesg --time-format iso` prints before a message
abbrev pub is_iso_time : List ℕ → Bool
is_iso_time text =
    is_time (up_to 32 text) && (slice_index_or text 10 0 == 84 && length (after 32 text) == 0)

-- the caller in brackets and a space: `[ T4711] `, `[    C0] `
abbrev pub is_caller : List ℕ → Bool
is_caller text =
    let caller = without_spaces (drop 1 text) in
    begins text (codes "[") && ((begins caller (codes "T") || begins caller (codes "C"))
    && (are_digits (drop 1 (up_to 93 caller)) && bytes_eq (after 93 caller) (codes " ")))

-- what may follow a time in brackets: a space, a caller, or both
abbrev pub is_after_brackets : List ℕ → Bool
is_after_brackets text =
    bytes_eq text (codes " ") || (is_caller text || begins text (codes " ") && is_caller (drop 1 text))

-- a time in brackets, and a space: `[   12.500001] `, `[   12.500001][ T4711] `,
-- `[Sun Nov 29 13:36:01 2026] `
abbrev pub is_bracketed : List ℕ → Bool
is_bracketed text =
    begins text (codes "[") && (is_clock (drop 1 (up_to 93 text)) && is_after_brackets (after 93 text))

-- a level, and a time in brackets: `<0>[   12.500001] `
abbrev pub is_leveled : List ℕ → Bool
is_leveled text =
    begins text (codes "<") && (is_number (drop 1 (up_to 62 text)) && is_bracketed (after 62 text))

-- What may come right before a message of the kernel: nothing, a time in brackets, a level and such a time, or an ISO
-- time.
abbrev pub is_stamp : List ℕ → Bool
is_stamp text = length text == 0 || (is_bracketed text || (is_leveled text || is_iso_time text))

-- ---- records

abbrev pub are_flag_signs : List ℕ → Bool
are_flag_signs text = list_all (λ b. is_name_sign b || list_any (λ sign. sign == b) (codes ",=+")) text

-- whether this is the rest of a record's head after its time: flags, and a semicolon
abbrev pub are_flags : List ℕ → Bool
are_flags text =
    ends_with nat_eq text (codes ";") && (length (after 59 text) == 0 && are_flag_signs (up_to 59 text))

-- the third field of a record's head: its time, in microseconds
abbrev pub record_time : List ℕ → List ℕ
record_time text = up_to 44 (after 44 (after 44 text))

-- `<level>,<sequence>,<microseconds>,<flags>[,..];`, as /dev/kmsg and netconsole print it
abbrev pub is_record : List ℕ → Bool
is_record text =
    is_number (up_to 44 text) && (is_number (up_to 44 (after 44 text)) && (is_number (record_time text)
    && are_flags (after 44 (after 44 (after 44 text)))))

-- ---- whether a line is the kernel's own

-- words of a time, followed by names: `Nov 29 13:36:01 host`, `Sun 2026-11-29 13:36:01 UTC host`,
-- `2026-11-29T13:36:01+00:00 host`
abbrev pub is_timed : List ℕ → Bool
is_timed text =
    let second = without_spaces (after 32 text) in
    is_time (up_to 32 text) && are_names (after 32 text)
    || is_name (up_to 32 text) && (is_time (up_to 32 second) && (is_time (up_to 32 (after 32 second))
    && are_names (after 32 (after 32 second))))

-- what may come before ` kernel: `: a time in brackets and the host's name, or words of a time and names
abbrev pub is_dated : List ℕ → Bool
is_dated text =
    if begins text (codes "[")
    then nat_lt (length (up_to 93 text)) (length text)
    && (is_clock (drop 1 (up_to 93 text)) && is_host (after 93 text))
    else is_timed text

abbrev pub is_facility : List ℕ → Bool
is_facility text = begins text (codes "kern  :") && are_names (after 58 text)

abbrev pub is_kernel : List ℕ → Bool
is_kernel text = ends_with nat_eq text (codes " kernel") && is_dated (take (length text - 7) text)

-- what may come before the first colon that a space follows: `Nov 29 13:36:01 host kernel`, or `kern  :emerg `
abbrev pub is_logger : List ℕ → Bool
is_logger text = is_facility text || is_kernel text

-- whether a head is the kernel's own, given the index of the first colon in it that a space follows
abbrev pub is_own_by : List ℕ → Option ℕ → Bool
is_own_by head None = is_stamp head || is_record head
is_own_by head (Some place) = is_logger (take place head) && is_stamp (drop (place + 2) head)

-- Whether a head shows a line to be the kernel's own. A message about a device or a process has its name, a colon and
-- a space before the text. The further lines of a message begin with spaces.
abbrev pub is_own : List ℕ → Bool
is_own head = is_own_by head (mark_place (codes ": ") head)
