pub mod Cutter
pub mod CutterInside
pub mod FaultScript
pub mod FaultScriptInside
pub mod Journal
pub mod Overlay
pub mod Part
