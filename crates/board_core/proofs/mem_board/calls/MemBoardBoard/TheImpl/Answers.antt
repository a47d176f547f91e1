-- Each call obeys the trait's clauses.
use Rattle.std.proofs.Common.{length, inl, inr, refl}
use Rattle.board_core.specs.declared.board.Access.TheVariants.{Write, RangeWrite}
use Rattle.board_core.specs.declared.board.DiskCall.TheVariants.{WriteAt, Sync}
use Rattle.board_core.specs.Doing.{writes, prints, calls, device, reg_write, range_write}
use Rattle.board_core.specs.MemBoard.{listing, listing_access, told_of, with_act}
use Rattle.board_core.specs.Told.{after_reg_write, device_of}
use Rattle.board_core.specs.Steps.ChangeLemmas.{passes_wrote, passes_synced, synced_now, passes_acted, passes_kept, passes_printed, leads_printed, store_left}
use Rattle.board_core.specs.Steps.MomentLemmas.{torn_nothing}
use Rattle.board_core.proofs.MemBoardLemmas.{made_by, fails_write, fails_print, put_made, store_nothing, begins_nothing}
use Rattle.board_core.proofs.mem_board.calls.MemBoardBoard.TheImpl.Goals as goal

pub write_at-tells : goal.write_at-tells
write_at-tells c =
    let old = c.args.self.now in
    let file = c.args.file in
    let place = c.args.place in
    let bytes = c.args.bytes.now in
    let act = writes file place bytes in
    let listed = listing (WriteAt file place (length bytes)) old in
    record {
      does = made_by act listed old c.new.self.now (record {
        lists = refl;
        told = refl;
        fails = fails_write file place (length bytes) (told_of old) (told_of old) (inl refl);
        fails_listed = fails_write file place (length bytes) (told_of old) (told_of listed) (inr refl);
        stops = passes_wrote old.past file place bytes c.requires;
        stands = torn_nothing file place (length bytes);
        settles = tt;
      }) c.result c.ensures.does;
    }

pub sync-tells : goal.sync-tells
sync-tells c =
    let old = c.args.self.now in
    let file = c.args.file in
    let act = calls (Sync file) in
    let listed = listing (Sync file) old in
    record {
      does = made_by act listed old c.new.self.now (record {
        lists = refl;
        told = refl;
        fails = inl refl;
        fails_listed = inr refl;
        stops = passes_synced old.past file;
        stands = λ left. refl;
        settles = (synced_now old.past file, store_left (record listed { past = with_act act old.past }));
      }) c.result c.ensures.does;
    }

pub reg_write-tells : goal.reg_write-tells
reg_write-tells c =
    let old = c.args.self.now in
    let reg = c.args.reg in
    let value = c.args.value in
    let act = device (reg_write reg value) in
    let listed = listing_access (Write reg value) old in
    record {
      does = made_by act listed old c.new.self.now (record {
        lists = refl;
        told = refl;
        fails = record { told = told_of old; acted = inl refl; listed = inl refl };
        fails_listed = record { told = told_of old; acted = inl refl; listed = inr refl };
        stops = passes_acted old.past (reg_write reg value);
        stands = store_nothing (after_reg_write reg value (device_of (told_of old))).store;
        settles = λ before. store_left (record listed { past = with_act act old.past });
      }) c.result c.ensures.does;
      device = c.ensures.device;
    }

pub range_write-tells : goal.range_write-tells
range_write-tells c =
    let old = c.args.self.now in
    let place = c.args.place in
    let bytes = c.args.bytes.now in
    let act = device (range_write place bytes) in
    let listed = listing_access (RangeWrite place (length bytes)) old in
    record {
      does = made_by act listed old c.new.self.now (record {
        lists = refl;
        told = refl;
        fails = record { told = told_of old; acted = inl refl; listed = inl refl };
        fails_listed = record { told = told_of old; acted = inl refl; listed = inr refl };
        stops = passes_kept old.past (range_write place bytes) refl;
        stands = λ left. refl;
        settles = tt;
      }) c.result c.ensures.does;
      device = c.ensures.device;
    }

pub put-tells : goal.put-tells
put-tells c = record {
  answers = c.ensures.answers;
  does = put_made c.args.id c.args.bytes.now c.result c.args.self.now c.new.self.now c.ensures.does;
  device = c.ensures.device;
}

pub print-tells : goal.print-tells
print-tells c =
    let old = c.args.self.now in
    let bytes = c.args.bytes.now in
    let act = prints bytes in
    record {
      does = made_by act old old c.new.self.now (record {
        lists = refl;
        told = refl;
        fails = fails_print bytes (told_of old);
        fails_listed = fails_print bytes (told_of old);
        stops = passes_printed old.past bytes;
        stands = begins_nothing bytes;
        settles = leads_printed old.past bytes;
      }) c.result c.ensures.does;
    }
