-- The bytes that the kernel saves are read.
use Rattle.std.proofs.Common.{◌≡◌, ℕ, ◌<◌, ◌^◌, true, [], length, refl, ap, ◌∙◌, arith, nat_le, Some}
use Rattle.std.proofs.lemmas.Bool.Decides.{nat_tests}
use Rattle.ras_base.specs.LittleEndian.{number_at, u32_bytes, u64_bytes}
use Rattle.ras_base.specs.Steps.LittleEndianLemmas.{number_at-u32_bytes, number_at-u64_bytes}
use Rattle.ras_klog.specs.Reading.{provided}
use Rattle.bank_lines.specs.Saved.Layout.{IsSaved, Saved, Version, event_by_members, is_length, saved_bytes, saved_event, to_ipid, to_kflags, to_mcgcap, to_microcode, to_ppin}

-- their number is the length of a record
abbrev size_of : Version → ℕ
size_of to_mcgcap = 88
size_of to_ipid = 104
size_of to_ppin = 112
size_of to_microcode = 120
size_of to_kflags = 128

size_is : (version : Version) (s : Saved) → length (saved_bytes version s) ≡ size_of version
unfolding u32_bytes u64_bytes
size_is to_mcgcap s = refl
size_is to_ipid s = refl
size_is to_ppin s = refl
size_is to_microcode s = refl
size_is to_kflags s = refl

one_of : (version : Version) → is_length (size_of version) ≡ true
one_of to_mcgcap = refl
one_of to_ipid = refl
one_of to_ppin = refl
one_of to_microcode = refl
one_of to_kflags = refl

long : (version : Version) (s : Saved) → is_length (length (saved_bytes version s)) ≡ true
long version s = ap is_length (size_is version s) ∙ one_of version

cpu_back : (version : Version) (s : Saved) → s.event.cpu < 2 ^ 16 → number_at 68 4 (saved_bytes version s) ≡ s.event.cpu
unfolding number_at u32_bytes u64_bytes
cpu_back version s small = number_at-u32_bytes s.event.cpu [] (omega (arith, small))

event_back : (version : Version) (s : Saved) → IsSaved s → event_by_members (saved_bytes version s) ≡ s.event
unfolding number_at u32_bytes u64_bytes
event_back version s fits = λ k. record {
  vendor = s.event.vendor;
  cpu = number_at-u32_bytes s.event.cpu [] (omega (arith, fits.cpu)) k;
  bank = s.event.bank;
  seconds = number_at-u64_bytes s.event.seconds [] fits.numbers.1.1.1.1.1.0 k;
  tsc = number_at-u64_bytes s.event.tsc [] fits.numbers.1.1.1.1.0 k;
  cap = number_at-u64_bytes s.event.cap [] fits.numbers.1.1.1.1.1.1.0 k;
  mcg = number_at-u64_bytes s.event.mcg [] fits.numbers.1.1.1.0 k;
  status = number_at-u64_bytes s.event.status [] fits.numbers.0 k;
  addr = number_at-u64_bytes s.event.addr [] fits.numbers.1.1.0 k;
  misc = number_at-u64_bytes s.event.misc [] fits.numbers.1.0 k;
}

low : (n : ℕ) → n < 2 ^ 16 → nat_le n 65535 ≡ true
low n small = grind (arith, nat_tests, small)

pub is_read : (version : Version) (s : Saved) → IsSaved s → saved_event (saved_bytes version s) ≡ Some s.event
is_read version s fits =
    ap (λ long. provided long (provided (nat_le (number_at 68 4 (saved_bytes version s)) 65535) (Some (event_by_members (saved_bytes version s))))) (long version s)
    ∙ ap (λ cpu. provided (nat_le cpu 65535) (Some (event_by_members (saved_bytes version s)))) (cpu_back version s fits.cpu)
    ∙ ap (λ fits. provided fits (Some (event_by_members (saved_bytes version s)))) (low s.event.cpu fits.cpu)
    ∙ ap Some (event_back version s fits)
