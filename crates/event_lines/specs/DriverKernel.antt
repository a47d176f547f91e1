-- The event `mc_event` as the kernel prints it for any of its EDAC drivers, in versions 6.1.192 and 6.12.117:
-- include/ras/ras_event.h, and `edac_raw_mc_handle_error` of drivers/edac/edac_mc.c.
use Rattle.std.specs.Prelude.{◌≡◌, ℕ, ◌-◌, ◌^◌, ◌<◌, ◌==◌, List, ◌∷◌, ◌++◌, codes, decimal, replicate, unwrap_or, Option, None, Some, IfSome, if◌then◌else◌}
use Rattle.bank_lines.specs.Kernel.{padded}
use Rattle.bank_lines.specs.LogHeads.{mark_place}
use Rattle.block_lines.specs.declared.memory.MemoryError.{MemoryError}
use Rattle.event_lines.specs.Driver.{lacks_place}
use Rattle.event_lines.specs.Memory.{behind_controller, firmware_mark, kind_named}
use Rattle.event_lines.specs.MemoryKernel.{before_more, grain_text, severity_name}

-- An event as the kernel prints it: the driver's message and the label of the module, the number of the memory
-- controller and of its layers, as far as the driver knows them, the address, with as many lowest bits unknown as the
-- grain has bits, and the driver's detail.
pub record PrintedDriver : Type 0 where
  pub severity : ℕ
  pub message : List ℕ
  pub label : List ℕ
  pub controller : ℕ
  pub top : Option ℕ
  pub middle : Option ℕ
  pub low : Option ℕ
  pub address : Option ℕ
  pub grain_bits : ℕ
  pub syndrome : ℕ
  pub detail : List ℕ

-- the error that is read; it has no place if the message says that the driver doesn't know it
abbrev pub error_of_driver : PrintedDriver → MemoryError
error_of_driver p = record {
  severity = p.severity;
  physical = p.address;
  mask = if p.grain_bits == 0 then None else Some (2 ^ 64 - 2 ^ p.grain_bits);
  location =
      if lacks_place p.message then record { node = None; card = None; «module» = None }
      else record { node = Some p.controller; card = p.top; «module» = p.middle };
  kind = kind_named p.message;
}

-- a layer, `%d`
abbrev pub layer_text : Option ℕ → List ℕ
layer_text None = codes "-1"
layer_text (Some n) = decimal n

-- `%d:%d:%d`
abbrev pub layers_text : PrintedDriver → List ℕ
layers_text p = layer_text p.top ++ 58 ∷ (layer_text p.middle ++ 58 ∷ layer_text p.low)

-- the text in the parentheses: `%d location:%d:%d:%d address:0x%08lx grain:%d syndrome:0x%08lx%s%s`, the last two a space
-- and the detail if there is one
abbrev pub driver_inside : PrintedDriver → List ℕ
driver_inside p =
    decimal p.controller ++ (codes " location:" ++ (layers_text p
    ++ (codes " address:0x" ++ (padded 8 (unwrap_or p.address 0)
    ++ (codes " grain:" ++ (grain_text p.grain_bits
    ++ (codes " syndrome:0x" ++ (padded 8 p.syndrome ++ before_more p.detail))))))))

-- `1 %s error:%s%s on %s`, with a space before the message if there is one
abbrev pub driver_front : PrintedDriver → List ℕ
driver_front p =
    codes "1 " ++ (severity_name p.severity ++ (codes " error:" ++ (before_more p.message ++ (codes " on " ++ p.label))))

-- the event's text: the front, ` (mc:`, and the text in the parentheses
abbrev pub printed_driver : PrintedDriver → List ℕ
printed_driver p = (driver_front p ++ (codes " (mc:" ++ driver_inside p)) ++ codes ")"

-- the line of an event, with spaces between its name and its text
abbrev pub driver_line : List ℕ → ℕ → PrintedDriver → List ℕ
driver_line head spaces p = head ++ (codes "mc_event: " ++ (replicate spaces 32 ++ printed_driver p))

-- The numbers fit their types, and the grain is below 4 GiB. The message has no ` on`. The detail has no ` (mc:`, and
-- not the name of the firmware's detail. The label may be any text.
pub record IsDriver (p : PrintedDriver) : Type 0 where
  pub severity : p.severity < 4
  pub message : mark_place (codes " on") p.message ≡ None
  pub controller : p.controller < 2 ^ 8
  pub top : IfSome p.top (λ n. n < 2 ^ 7)
  pub middle : IfSome p.middle (λ n. n < 2 ^ 7)
  pub low : IfSome p.low (λ n. n < 2 ^ 7)
  pub address : IfSome p.address (λ n. (0 < n) × (n < 2 ^ 64))
  pub grain : p.grain_bits < 32
  pub syndrome : p.syndrome < 2 ^ 64
  pub no_mark : behind_controller (32 ∷ p.detail) ≡ None
  pub other_driver : mark_place firmware_mark p.detail ≡ None
