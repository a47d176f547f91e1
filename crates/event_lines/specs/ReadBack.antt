-- What the section, the block and the line of an event are read as, and the block and the line of a memory error.
use Rattle.std.specs.Prelude.{ℕ, ◌+◌, ◌/◌, List, Some}
use Rattle.cper_pcie.specs.declared.section.PcieSection.{PcieSection}
use Rattle.ras_facts.specs.declared.name.Name.{Name}
use Rattle.ras_facts.specs.declared.name.Name.TheVariants as names
use Rattle.ras_script.specs.declared.line.ErrorReport.TheVariants.{Block}
use Rattle.ras_script.specs.declared.line.Line.{Line}
use Rattle.ras_script.specs.declared.line.Line.TheVariants as asks
use Rattle.bank_lines.specs.declared.log_line.TheConstants.{MICROSECONDS}
use Rattle.block_lines.specs.Blocks.{section_entry_bytes}
use Rattle.event_lines.specs.Aer.{cper_severity}
use Rattle.event_lines.specs.Filter.{event_block, memory_block}
use Rattle.event_lines.specs.PcieBytes.{correctable_by, pcie_section_bytes, pcie_type, uncorrectable_by}
use Rattle.event_lines.specs.declared.aer.AerEvent.{AerEvent}
use Rattle.event_lines.specs.declared.filter.TheConstants.{TRACE_SOURCE}
use Rattle.event_lines.specs.declared.traced.FoundEvent.{FoundEvent}
use Rattle.event_lines.specs.declared.traced.FoundMemory.{FoundMemory}

-- the PCI Express section of an event: its function, without ids, and its status
abbrev pub section_told : AerEvent → PcieSection
section_told event = record {
  device = Some (record {
    segment = event.device.segment;
    bus = event.device.bus;
    device = event.device.device;
    function = event.device.function;
    vendor = 0;
    id = 0;
  });
  uncor = Some (uncorrectable_by event.severity event.status);
  cor = Some (correctable_by event.severity event.status);
}

-- the entry of the event's block
abbrev pub event_entry : AerEvent → List ℕ
event_entry event = section_entry_bytes pcie_type (cper_severity event.severity) (pcie_section_bytes event)

-- what the event's line asks of a run, in this boot, which began at this second
abbrev pub event_asked : ℕ → ℕ → FoundEvent → Line
event_asked boot began found =
    asks.Report (Block boot (began + found.stamp / MICROSECONDS) TRACE_SOURCE found.stamp (event_block found.event))

-- the name under which the event is counted
abbrev pub event_name : ℕ → FoundEvent → Name
event_name boot found = names.Block boot TRACE_SOURCE found.stamp

-- ---- a memory error

-- what the memory error's line asks of a run, in this boot, which began at this second
abbrev pub memory_asked : ℕ → ℕ → FoundMemory → Line
memory_asked boot began found =
    asks.Report (Block boot (began + found.stamp / MICROSECONDS) TRACE_SOURCE found.stamp (memory_block found.error))

-- the name under which the memory error is counted
abbrev pub memory_name : ℕ → FoundMemory → Name
memory_name boot found = names.Block boot TRACE_SOURCE found.stamp
