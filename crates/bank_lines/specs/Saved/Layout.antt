-- The bytes of the kernel's `struct mce` (arch/x86/include/uapi/asm/mce.h), which the kernel saves of a machine check
-- that makes it panic.
use Rattle.std.specs.Prelude.{ℕ, ◌^◌, ◌<◌, ◌==◌, Bool, List, [], ◌∷◌, ◌++◌, length, nat_le, slice_index, Option, Some}
use Rattle.std.specs.List.{AllByRecursion, list_any}
use Rattle.ras_base.specs.LittleEndian.{number_at, u32_bytes, u64_bytes}
use Rattle.ras_klog.specs.Reading.{provided}
use Rattle.bank_lines.specs.declared.event.TraceEvent.{TraceEvent}

-- ---- what the kernel writes

-- all that the kernel saves: the numbers that are read (`event`), and those that are skipped
pub record Saved : Type 0 where
  pub event : TraceEvent
  pub ip : ℕ
  pub inject_flags : ℕ
  pub severity : ℕ
  pub pad : ℕ
  pub cpuid : ℕ
  pub cs : ℕ
  pub old_cpu : ℕ
  pub finished : ℕ
  pub socket : ℕ
  pub apic : ℕ
  pub synd : ℕ
  pub ipid : ℕ
  pub ppin : ℕ
  pub microcode : ℕ
  pub gap : ℕ
  pub kflags : ℕ

-- The struct has grown at its end: in each kernel it ends with one of these members.
pub data Version : Type 0 where
  to_mcgcap : Version
  to_ipid : Version
  to_ppin : Version
  to_microcode : Version
  to_kflags : Version

-- the members that only some kernels have; a gap of four bytes follows the microcode's revision
abbrev pub later_members : Version → Saved → List ℕ
later_members to_mcgcap s = []
later_members to_ipid s = u64_bytes s.synd ++ u64_bytes s.ipid
later_members to_ppin s = u64_bytes s.synd ++ (u64_bytes s.ipid ++ u64_bytes s.ppin)
later_members to_microcode s =
    u64_bytes s.synd ++ (u64_bytes s.ipid ++ (u64_bytes s.ppin ++ (u32_bytes s.microcode ++ u32_bytes s.gap)))
later_members to_kflags s =
    u64_bytes s.synd ++ (u64_bytes s.ipid ++ (u64_bytes s.ppin ++ (u32_bytes s.microcode ++ (u32_bytes s.gap
    ++ u64_bytes s.kflags))))

-- The members in their order: __u64 status, misc, addr, mcgstatus, ip, tsc, time; __u8 cpuvendor, inject_flags,
-- severity, pad; __u32 cpuid; __u8 cs, bank, cpu, finished; __u32 extcpu, socketid, apicid; __u64 mcgcap; and the
-- later members.
abbrev pub saved_bytes : Version → Saved → List ℕ
saved_bytes version s =
    u64_bytes s.event.status ++ (u64_bytes s.event.misc ++ (u64_bytes s.event.addr
    ++ (u64_bytes s.event.mcg ++ (u64_bytes s.ip ++ (u64_bytes s.event.tsc
    ++ (u64_bytes s.event.seconds ++ (s.event.vendor ∷ s.inject_flags ∷ s.severity ∷ s.pad
    ∷ (u32_bytes s.cpuid ++ (s.cs ∷ s.event.bank ∷ s.old_cpu ∷ s.finished
    ∷ (u32_bytes s.event.cpu ++ (u32_bytes s.socket ++ (u32_bytes s.apic
    ++ (u64_bytes s.event.cap ++ later_members version s)))))))))))))

-- The numbers that are read fit their members, and the CPU's number fits a report.
pub record IsSaved (s : Saved) : Type 0 where
  pub cpu : s.event.cpu < 2 ^ 16
  pub numbers : AllByRecursion (λ n. n < 2 ^ 64) (
      s.event.status ∷ s.event.misc ∷ s.event.addr ∷ s.event.mcg ∷ s.event.tsc ∷ s.event.seconds
      ∷ s.event.cap ∷ [])

-- ---- what is read

-- whether a record of some version of the struct has this length
abbrev pub is_length : ℕ → Bool
is_length n = list_any (λ bytes. bytes == n) (88 ∷ 104 ∷ 112 ∷ 120 ∷ 128 ∷ [])

-- the event of a record: each member is read at its offset and in its width
abbrev pub event_by_members : List ℕ → TraceEvent
event_by_members bytes = record {
  vendor = slice_index bytes 56;
  cpu = number_at 68 4 bytes;
  bank = slice_index bytes 65;
  seconds = number_at 48 8 bytes;
  tsc = number_at 40 8 bytes;
  cap = number_at 80 8 bytes;
  mcg = number_at 24 8 bytes;
  status = number_at 0 8 bytes;
  addr = number_at 16 8 bytes;
  misc = number_at 8 8 bytes;
}

-- the event of a record, if the bytes have the length of a record, and the CPU's number fits a report
abbrev pub saved_event : List ℕ → Option TraceEvent
saved_event bytes =
    provided (is_length (length bytes))
    (provided (nat_le (number_at 68 4 bytes) 65535) (Some (event_by_members bytes)))
