-- The two kinds of status, and lines by their parts.
use Rattle.std.specs.Prelude.{ℕ, Bool, List, ◌∷◌, ◌++◌, codes, decimal, Result, if◌then◌else◌}
use Rattle.ras_base.specs.Text.{line_with}
use Rattle.ras_facts.specs.declared.name.Name.{Name}
use Rattle.ras_texts.specs.Text.{name_text}
use Rattle.cper_pcie.specs.Bits.{correctable_names, uncorrectable_names}
use Rattle.cper_pcie.specs.Texts.{section_text}
use Rattle.cper_pcie.specs.declared.section.PcieRefused.{PcieRefused}
use Rattle.cper_pcie.specs.declared.section.PcieSection.{PcieSection}
use Rattle.cper_pcie.specs.declared.texts.Kind.{Kind}
use Rattle.cper_pcie.specs.declared.texts.Kind.TheVariants.{Uncorrectable, Correctable}

abbrev pub bit_names_of : Kind → List (ℕ × List ℕ)
bit_names_of Uncorrectable = uncorrectable_names
bit_names_of Correctable = correctable_names

abbrev pub line_of_section : Name → ℕ → Result PcieSection PcieRefused → List ℕ
line_of_section name severity section = line_with (
    codes "pcie " ++ name_text name ++ section_text severity section)

abbrev pub end_text : ℕ → ℕ → List ℕ
end_text sections devices = line_with (
    codes "end sections=" ++ decimal sections ++ codes " devices=" ++ decimal devices)

-- a text after a comma, or without a comma if it is the first
abbrev pub next_bit_text : Bool → List ℕ → List ℕ
next_bit_text is_first text = if is_first then text else 44 ∷ text
