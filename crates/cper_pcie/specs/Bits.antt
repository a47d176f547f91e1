-- The bits of a status, each a kind of error of a PCI Express function, and their names. The bits
-- are those of the PCI Express base specification, "Uncorrectable Error Status Register" and
-- "Correctable Error Status Register"; the names are this project's own.
use Rattle.std.specs.Prelude.{ℕ, List, [], ◌∷◌, codes, filter, length, Option, None, Some}
use Rattle.std.specs.List.{range_with_len}
use Rattle.ras_base.specs.Bits.{is_set}

abbrev pub uncorrectable_names : List (ℕ × List ℕ)
uncorrectable_names =
    (4, codes "data-link") ∷ (5, codes "surprise-down") ∷ (12, codes "poisoned-tlp")
    ∷ (13, codes "flow-control") ∷ (14, codes "completion-timeout") ∷ (15, codes "completer-abort")
    ∷ (16, codes "unexpected-completion") ∷ (17, codes "receiver-overflow")
    ∷ (18, codes "malformed-tlp") ∷ (19, codes "ecrc") ∷ (20, codes "unsupported-request")
    ∷ (21, codes "acs-violation") ∷ (22, codes "internal") ∷ (23, codes "mc-blocked")
    ∷ (24, codes "atomic-blocked") ∷ (25, codes "prefix-blocked") ∷ []

abbrev pub correctable_names : List (ℕ × List ℕ)
correctable_names =
    (0, codes "receiver-error") ∷ (6, codes "bad-tlp") ∷ (7, codes "bad-dllp")
    ∷ (8, codes "replay-rollover") ∷ (12, codes "replay-timeout") ∷ (13, codes "advisory")
    ∷ (14, codes "corrected-internal") ∷ (15, codes "header-overflow") ∷ []

-- the bits of a status that are set, in rising order
abbrev pub bits_of : ℕ → List ℕ
bits_of status = filter (λ bit. is_set bit status) (range_with_len 0 32)

-- how many bits of a status are set; 0 if there is no status
abbrev pub error_count : Option ℕ → ℕ
error_count None = 0
error_count (Some status) = length (bits_of status)
