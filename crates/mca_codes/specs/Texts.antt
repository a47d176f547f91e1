-- The text of an error code: a word for the kind, the words of its subfields with a colon before
-- each, and "/F" if correction report filtering is on. The subfields' words follow the tables of
-- the Intel SDM, volume 3, section "Compound Error Codes"; the texts are this project's own.
use Rattle.std.specs.Prelude.{ℕ, ◌≢◌, ◌==◌, Bool, List, [], ◌∷◌, ◌++◌, codes, decimal, slice_index_or, if◌then◌else◌, not, ◌&&◌}
use Rattle.std.specs.List.{AllPass}
use Rattle.mca_codes.specs.declared.codes.Code.{Code}
use Rattle.mca_codes.specs.declared.codes.Code.TheVariants.{NoError, Unclassified, MicrocodeRom, External, Frc, InternalParity, InternalTimer, InternalUnclassified, GenericIo, Other, GenericCache, Tlb, Memory, Cache, Bus}

-- what a subfield's value prints: the word at its index, or RES after the last word
abbrev pub word_at : List (List ℕ) → ℕ → List ℕ
word_at words value = slice_index_or words value (codes "RES")

-- LL, the memory hierarchy level
abbrev pub level_words : List (List ℕ)
level_words = codes "L0" ∷ codes "L1" ∷ codes "L2" ∷ codes "LG" ∷ []

-- TT, the transaction type
abbrev pub transaction_words : List (List ℕ)
transaction_words = codes "I" ∷ codes "D" ∷ codes "G" ∷ codes "RES" ∷ []

-- RRRR, the request; 9 to 15 are reserved
abbrev pub request_words : List (List ℕ)
request_words =
    codes "ERR" ∷ codes "RD" ∷ codes "WR" ∷ codes "DRD" ∷ codes "DWR" ∷ codes "IRD"
    ∷ codes "PREFETCH" ∷ codes "EVICT" ∷ codes "SNOOP" ∷ []

-- PP, the participation; 1, the processor responded, prints RES too
abbrev pub participation_words : List (List ℕ)
participation_words = codes "SRC" ∷ codes "RES" ∷ codes "OBS" ∷ codes "GEN" ∷ []

-- T, the time-out
abbrev pub timeout_words : List (List ℕ)
timeout_words = codes "NOTIMEOUT" ∷ codes "TIMEOUT" ∷ []

-- II, memory or input and output
abbrev pub target_words : List (List ℕ)
target_words = codes "M" ∷ codes "RES" ∷ codes "IO" ∷ codes "OTHER" ∷ []

-- MMM, the memory transaction; 5 to 7 are reserved
abbrev pub memory_words : List (List ℕ)
memory_words = codes "GEN" ∷ codes "RD" ∷ codes "WR" ∷ codes "AC" ∷ codes "SCRUB" ∷ []

-- CCCC, the channel; 15 is an unspecified channel
abbrev pub channel_word : ℕ → List ℕ
channel_word channel = if channel == 15 then codes "-" else decimal channel

-- the words of subfields, with a colon before each
abbrev pub with_colons : List (List ℕ) → List ℕ
with_colons [] = []
with_colons (word ∷ words) = codes ":" ++ word ++ with_colons words

-- the ending of a compound code
abbrev pub filter_ending : Bool → List ℕ
filter_ending filter = if filter then codes "/F" else []

-- the text of a compound code, by the word for its kind and the words of its subfields
abbrev pub compound_text : List ℕ → List (List ℕ) → Bool → List ℕ
compound_text kind words filter = kind ++ with_colons words ++ filter_ending filter

-- the text of a code
abbrev pub code_text_of : Code → List ℕ
code_text_of NoError = codes "none"
code_text_of Unclassified = codes "unclassified"
code_text_of MicrocodeRom = codes "microcode-rom-parity"
code_text_of External = codes "external"
code_text_of Frc = codes "frc"
code_text_of InternalParity = codes "internal-parity"
code_text_of InternalTimer = codes "internal-timer"
code_text_of InternalUnclassified = codes "internal-unclassified"
code_text_of GenericIo = codes "generic-io"
code_text_of (GenericCache ll filter) = compound_text (codes "gencache") (word_at level_words ll ∷ []) filter
code_text_of (Tlb tt ll filter) =
    compound_text (codes "tlb") (word_at transaction_words tt ∷ word_at level_words ll ∷ []) filter
code_text_of (Memory mmm channel filter) =
    compound_text (codes "memory") (word_at memory_words mmm ∷ channel_word channel ∷ []) filter
code_text_of (Cache rrrr tt ll filter) =
    compound_text (codes "cache")
    (word_at transaction_words tt ∷ word_at level_words ll ∷ word_at request_words rrrr ∷ []) filter
code_text_of (Bus pp t rrrr ii ll filter) =
    compound_text (codes "bus")
    (word_at level_words ll ∷ word_at participation_words pp ∷ word_at request_words rrrr
    ∷ word_at target_words ii ∷ word_at timeout_words t ∷ []) filter
code_text_of Other = codes "OTHER"

-- whether a byte can be in a word: it is neither a space (20h) nor a line feed (0Ah)
abbrev pub is_word_byte : ℕ → Bool
is_word_byte byte = not (byte == 0x20) && not (byte == 0x0a)

-- a word of a printed line: it isn't empty, and each of its bytes can be in a word
abbrev pub IsWord : List ℕ → Type 0
IsWord bytes = (bytes ≢ []) × AllPass is_word_byte bytes
