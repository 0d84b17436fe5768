-- Frames wait at sites, and rows raise at sites.
use Rattle.std.proofs.Common.{inl, inr, ◌≡◌, true, false, not, refl, ap, subst, sym, ◌∙◌, List, [], ◌++◌, Some, slice_get, if◌then◌else◌}
use Rattle.std.specs.List.{Contains}
use Rattle.std.proofs.lemmas.List.Elements.{Contains-append_cases, Contains-append_left, Contains-append_right}
use Rattle.beam_code.specs.Gates.{may_raise}
use Rattle.beam_code.specs.Shape.{Shape, shape_of}
use Rattle.live_slots.specs.Live.{IsLive, Slot, begins_of, keeping_of, stores}
use Rattle.live_slots.proofs.Live.{kept}
use Rattle.live_slots.specs.Sites.{FramesWaitAtSites, RowsRaiseAtSites, SitesKeepSlots}
use Rattle.path_rules.specs.Points.{Point, at_labels, handlers, labels_of, onward}
use Rattle.path_rules.specs.Tags.{lowest_tag}
use Rattle.run_laws.proofs.Landing.{HasPoint}
use Rattle.run_laws.proofs.Local.{Next, next}

pub frames_wait_at_sites : FramesWaitAtSites
frames_wait_at_sites ms frame w =
    record { moves = w.moves; point = w.point; free = w.free; at = w.item; instr = w.call; there = w.there; may = subst (λ shape. may_raise ms shape ≡ true) (sym w.calls) refl }

pub rows_raise_at_sites : RowsRaiseAtSites
rows_raise_at_sites ms limits heap room function l m shown class reason checked big e =
    let h = shown.shows in
    let has : HasPoint l.left heap shown.point l = record { left = refl; room = h.room; at = sym h.item; registers = h.xs; wide = h.wide; shows = h.stack } in
    let t = subst (Next ms heap shown.placed shown.moves shown.point l.left) e (next ms heap checked function shown.placed shown.is limits big room shown.moves l (record { p = shown.point; free = shown.free; has = has })) in
    let left = t.0 in
    record {
      moves = shown.moves;
      point = shown.point;
      free = shown.free;
      at = h.item;
      instr = left.i;
      there = subst (λ k. slice_get shown.placed.function.items k ≡ Some left.i) h.item left.at;
      may = left.may;
    }

pub sites_keep_slots : SitesKeepSlots
sites_keep_slots ms f slot item live off =
    let p = live.site.point in
    let there : slice_get f.function.items p.item ≡ Some live.site.instr = ap (slice_get f.function.items) live.site.at ∙ live.site.there in
    subst (IsLive ms f.function (Slot slot)) live.site.at (kept ms f live.site.moves p live.site.instr live.site.free there (Slot slot) live.to (by (shape_of live.site.instr.instr) off live.begins) live.live)
  where
    by : (shape : Shape) → stores shape live.site.point.stack (Slot slot) ≡ false → Contains (begins_of ms f.function live.site.point shape) live.to → Contains (keeping_of ms f.function (Slot slot) live.site.point shape) live.to
    by shape off c =
        let p = live.site.point in
        let raised : List Point = if may_raise ms shape then handlers f.function p (lowest_tag p.tags) else [] in
        elim (Contains-append_cases (onward f.function shape p) raised live.to c) [
          | inl on ↦ Contains-append_left (if not (stores shape p.stack (Slot slot)) then onward f.function shape p else []) (at_labels f.function p (labels_of shape) ++ raised) live.to
              (subst (λ b. Contains (if not b then onward f.function shape p else []) live.to) (sym off) on)
          | inr up ↦ Contains-append_right (if not (stores shape p.stack (Slot slot)) then onward f.function shape p else []) (at_labels f.function p (labels_of shape) ++ raised) live.to
              (Contains-append_right (at_labels f.function p (labels_of shape)) raised live.to up)
        ]
